-- Question 10: the rule of pins lets a list through exactly when the pins behind each block kind fit it.
use Rattle.std.proofs.Common.{◌≡◌, ℕ, zero, suc, ◌+◌, ◌<◌, ◌≤◌, Bool, true, false, cond, eqb, ltb, List, [], ◌∷◌, length, drop, Some, None, Option, sym, refl, ap, ◌∙◌, subst, arith}
use Rattle.std.proofs.lemmas.Bool.Decides.{nat_tests}
use Rattle.std.proofs.lemmas.Bool.{cond-true}
use Rattle.catalogue.specs.declared.Block.{Block}
use Rattle.catalogue.specs.declared.Pin.{Pin as PinKind}
use Rattle.catalogue.specs.Blocks.{pins_of}
use Rattle.item.specs.declared.item.Item.{Item}
use Rattle.item.specs.declared.item.Item.TheVariants.{Nop, Start, Open, Close, Operand, Operator, Compare, Assign, EndIf, Call, Kind, Pin, Direct, Mark, End}
use Rattle.rule.specs.Automata.{reached}
use Rattle.grammar.specs.declared.automaton.Grammar.{Grammar}
use Rattle.grammar.specs.declared.automaton.Grammar.TheVariants as Phase
use Rattle.grammar.specs.Grammar.{grammar, grammar_step, done, waiting, pin_count}
use Rattle.fitting.specs.declared.pins.Pins.{Pins}
use Rattle.fitting.specs.declared.pins.Pins.TheVariants.{Idle, At}
use Rattle.fitting.specs.Pins.{pins, pin_step, next_pin, nth_pin, pin_of, operand_at_pin, direct_at_pin}
use Rattle.operand.specs.declared.operand.Operand.{Operand as Place}
use Rattle.questions.specs.Everywhere.{Everywhere}
use Rattle.questions.specs.Calls.{takes, FitPins, Pinned}
use Rattle.questions.proofs.Runs.{Through, first_step, through_more, through_none}

-- the pin with a number, and those behind it
split : (ps : List PinKind) (n : ℕ) → n < length ps → (p : PinKind) × (nth_pin ps n ≡ Some p) × (drop n ps ≡ p ∷ drop (suc n) ps)
split [] n h = absurd (omega arith)
split (p ∷ ps) zero h = (p, refl, refl)
split (p ∷ ps) (suc n) h = split ps n (omega arith)

none_left : (ps : List PinKind) (n : ℕ) → length ps ≤ n → drop n ps ≡ []
none_left [] zero h = refl
none_left [] (suc n) h = refl
none_left (p ∷ ps) zero h = absurd (omega arith)
none_left (p ∷ ps) (suc n) h = none_left ps n (omega arith)

-- the pins that are due
abbrev left : Pins → List PinKind
left Idle = []
left (At b n) = drop n (pins_of b)

-- which states of the two rules go together
abbrev in_phase : Grammar → Pins → Bool
in_phase Phase.Between Idle = true
in_phase (Phase.Term d e) Idle = true
in_phase (Phase.After d e n) Idle = true
in_phase Phase.Assigned Idle = true
in_phase Phase.Named Idle = true
in_phase (Phase.Pins m) Idle = false
in_phase Phase.Done Idle = true
in_phase Phase.Between (At b n) = false
in_phase (Phase.Term d e) (At b n) = false
in_phase (Phase.After d e k) (At b n) = false
in_phase Phase.Assigned (At b n) = false
in_phase Phase.Named (At b n) = false
in_phase (Phase.Pins m) (At b n) = eqb (suc (n + m)) (pin_count b)
in_phase Phase.Done (At b n) = false

next_left : (b : Block) (n : ℕ) → left (next_pin b n) ≡ drop (suc n) (pins_of b)
next_left b n = by (ltb (n + 1) (pin_count b)) refl
  where
    by : (t : Bool) → ltb (n + 1) (pin_count b) ≡ t → left (cond t (At b (n + 1)) Idle) ≡ drop (suc n) (pins_of b)
    by true h = let e : n + 1 ≡ suc n = omega arith in ap (λ (k : ℕ). drop k (pins_of b)) e
    by false h = sym (none_left (pins_of b) (suc n) (grind (arith, nat_tests)))

-- a pin that is let in fits, and the next one is due
abbrev Taken : Block → ℕ → Pins → Item → Type 0
Taken b n v x = (v ≡ next_pin b n) × ((p : PinKind) → pin_of b n ≡ Some p → takes p x ≡ true)

pins_due : (b : Block) (n m : ℕ) → eqb (suc (n + m)) (pin_count b) ≡ true → in_phase (waiting m) (next_pin b n) ≡ true
pins_due b n zero h = by (ltb (n + 1) (pin_count b)) refl
  where
    by : (t : Bool) → ltb (n + 1) (pin_count b) ≡ t → in_phase Phase.Between (cond t (At b (n + 1)) Idle) ≡ true
    by true l = absurd (grind (arith, nat_tests))
    by false l = refl
pins_due b n (suc m) h = by (ltb (n + 1) (pin_count b)) refl
  where
    by : (t : Bool) → ltb (n + 1) (pin_count b) ≡ t → in_phase (Phase.Pins m) (cond t (At b (n + 1)) Idle) ≡ true
    by true l = grind (arith, nat_tests)
    by false l = absurd (grind (arith, nat_tests))

kind_due : (b : Block) → in_phase (waiting (pin_count b)) (At b 0) ≡ true
kind_due b = grind (arith, nat_tests)

let_through : (t : Bool) (w v : Pins) → cond t (Some w) None ≡ Some v → (t ≡ true) × (v ≡ w)
let_through true w v h = let e : w ≡ v = cc in (refl, sym e)
let_through false w v h = cc

-- what no state lets in
stopped : {P A : Type 0} (a : A) → ◌≡◌ {A = Option A} None (Some a) → P
stopped a h = cc

operand_taken : (b : Block) (n : ℕ) (v : Pins) (o : Place) → pin_step (At b n) (Pin o) ≡ Some v → Taken b n v (Pin o)
operand_taken b n v o f =
    let (t, e) = let_through (operand_at_pin (pin_of b n) o) (next_pin b n) v f in
    (e, λ p q. sym (ap (λ (k : Option PinKind). operand_at_pin k o) q) ∙ t)

direct_taken : (b : Block) (n : ℕ) (v : Pins) (w : ℕ) → pin_step (At b n) (Direct w) ≡ Some v → Taken b n v (Direct w)
direct_taken b n v w f =
    let (t, e) = let_through (direct_at_pin (pin_of b n) w) (next_pin b n) v f in
    (e, λ p q. sym (ap (λ (k : Option PinKind). direct_at_pin k w) q) ∙ t)

few : (n m c : ℕ) → eqb (suc (n + m)) c ≡ true → n < c
few n m c h = grind (arith, nat_tests)

-- where pins are due only a pin is let in
module _ (m : ℕ) (b : Block) (n : ℕ) (v : Pins) where
  at_pin : (h : Grammar) (x : Item) → grammar_step (Phase.Pins m) x ≡ Some h → pin_step (At b n) x ≡ Some v → (h ≡ waiting m) × Taken b n v x
  at_pin h Nop e f = stopped h e
  at_pin h (Start t) e f = stopped h e
  at_pin h (Open t) e f = stopped h e
  at_pin h Close e f = stopped h e
  at_pin h (Operand o) e f = stopped h e
  at_pin h (Operator o) e f = stopped h e
  at_pin h (Compare c) e f = stopped h e
  at_pin h (Assign a o) e f = stopped h e
  at_pin h EndIf e f = stopped h e
  at_pin h (Call j) e f = stopped h e
  at_pin h (Kind k) e f = stopped h e
  at_pin h (Pin o) e f = let i : waiting m ≡ h = cc in (sym i, operand_taken b n v o f)
  at_pin h (Direct w) e f = let i : waiting m ≡ h = cc in (sym i, direct_taken b n v w f)
  at_pin h (Mark k) e f = stopped h e
  at_pin h End e f = stopped h e

  due_next : (h : Grammar) (x : Item) → grammar_step (Phase.Pins m) x ≡ Some h → pin_step (At b n) x ≡ Some v → eqb (suc (n + m)) (pin_count b) ≡ true → in_phase h v ≡ true
  due_next h x e f i =
      let (a, (c, d)) = at_pin h x e f in
      subst (λ (g : Grammar). in_phase g v ≡ true) (sym a) (subst (λ (w : Pins). in_phase (waiting m) w ≡ true) (sym c) (pins_due b n m i))

  due_fits : (h : Grammar) (x : Item) (xs : List Item) → grammar_step (Phase.Pins m) x ≡ Some h → pin_step (At b n) x ≡ Some v → eqb (suc (n + m)) (pin_count b) ≡ true → FitPins (left v) xs → FitPins (drop n (pins_of b)) (x ∷ xs)
  due_fits h x xs e f i w =
      let (a, (c, d)) = at_pin h x e f in
      let (p, q, r) = split (pins_of b) n (few n m (pin_count b) i) in
      let rest : left v ≡ drop (suc n) (pins_of b) = ap left c ∙ next_left b n in
      subst (λ (ps : List PinKind). FitPins ps (x ∷ xs)) (sym r) (d p q, subst (λ (ps : List PinKind). FitPins ps xs) rest w)

idle_next : (g h : Grammar) (x : Item) (v : Pins) → grammar_step g x ≡ Some h → pin_step Idle x ≡ Some v → in_phase g Idle ≡ true → in_phase h v ≡ true
idle_next Phase.Between h x v e f i = grind (arith, nat_tests)
idle_next (Phase.Term d s) h x v e f i = grind (arith, nat_tests)
idle_next (Phase.After d s n) h x v e f i = grind (arith, nat_tests)
idle_next Phase.Assigned h x v e f i = grind (arith, nat_tests)
idle_next Phase.Named h x v e f i = named h x v e f
  where
    named : (h : Grammar) (x : Item) (v : Pins) → grammar_step Phase.Named x ≡ Some h → pin_step Idle x ≡ Some v → in_phase h v ≡ true
    named h Nop v e f = stopped h e
    named h (Start t) v e f = stopped h e
    named h (Open t) v e f = stopped h e
    named h Close v e f = stopped h e
    named h (Operand o) v e f = stopped h e
    named h (Operator o) v e f = stopped h e
    named h (Compare c) v e f = stopped h e
    named h (Assign a o) v e f = stopped h e
    named h EndIf v e f = stopped h e
    named h (Call j) v e f = stopped h e
    named h (Kind k) v e f =
        let a : waiting (pin_count k) ≡ h = cc in
        let c : At k 0 ≡ v = cc in
        subst (λ (g : Grammar). in_phase g v ≡ true) a (subst (λ (w : Pins). in_phase (waiting (pin_count k)) w ≡ true) c (kind_due k))
    named h (Pin o) v e f = stopped h e
    named h (Direct w) v e f = stopped h e
    named h (Mark k) v e f = stopped h e
    named h End v e f = stopped h e
idle_next (Phase.Pins m) h x v e f i = cc
idle_next Phase.Done h x v e f i = stopped h e

not_due : {P : Type 0} → false ≡ true → P
not_due h = cc

next_phase : (g h : Grammar) (x : Item) (s v : Pins) → grammar_step g x ≡ Some h → pin_step s x ≡ Some v → in_phase g s ≡ true → in_phase h v ≡ true
next_phase g h x Idle v e f i = idle_next g h x v e f i
next_phase Phase.Between h x (At b n) v e f i = not_due i
next_phase (Phase.Term d s) h x (At b n) v e f i = not_due i
next_phase (Phase.After d s k) h x (At b n) v e f i = not_due i
next_phase Phase.Assigned h x (At b n) v e f i = not_due i
next_phase Phase.Named h x (At b n) v e f i = not_due i
next_phase (Phase.Pins m) h x (At b n) v e f i = due_next m b n v h x e f i
next_phase Phase.Done h x (At b n) v e f i = not_due i

fits_here : (g h : Grammar) (x : Item) (xs : List Item) (s v : Pins) → grammar_step g x ≡ Some h → pin_step s x ≡ Some v → in_phase g s ≡ true → FitPins (left v) xs → FitPins (left s) (x ∷ xs)
fits_here g h x xs Idle v e f i w = tt
fits_here Phase.Between h x xs (At b n) v e f i w = not_due i
fits_here (Phase.Term d s) h x xs (At b n) v e f i w = not_due i
fits_here (Phase.After d s k) h x xs (At b n) v e f i w = not_due i
fits_here Phase.Assigned h x xs (At b n) v e f i w = not_due i
fits_here Phase.Named h x xs (At b n) v e f i w = not_due i
fits_here (Phase.Pins m) h x xs (At b n) v e f i w = due_fits m b n v h x xs e f i w
fits_here Phase.Done h x xs (At b n) v e f i w = not_due i

pinned_at : (x : Item) (xs : List Item) (s v : Pins) → pin_step s x ≡ Some v → FitPins (left v) xs → Pinned x xs
pinned_at Nop xs s v f w = tt
pinned_at (Start t) xs s v f w = tt
pinned_at (Open t) xs s v f w = tt
pinned_at Close xs s v f w = tt
pinned_at (Operand o) xs s v f w = tt
pinned_at (Operator o) xs s v f w = tt
pinned_at (Compare c) xs s v f w = tt
pinned_at (Assign a o) xs s v f w = tt
pinned_at EndIf xs s v f w = tt
pinned_at (Call j) xs s v f w = tt
pinned_at (Kind k) xs s v f w = let c : At k 0 ≡ v = cc in subst (λ (u : Pins). FitPins (left u) xs) (sym c) w
pinned_at (Pin o) xs s v f w = tt
pinned_at (Direct d) xs s v f w = tt
pinned_at (Mark m) xs s v f w = tt
pinned_at End xs s v f w = tt

over : (g : Grammar) (s : Pins) → done g ≡ true → in_phase g s ≡ true → FitPins (left s) []
over g Idle d i = tt
over Phase.Between (At b n) d i = not_due i
over (Phase.Term a s) (At b n) d i = not_due i
over (Phase.After a s k) (At b n) d i = not_due i
over Phase.Assigned (At b n) d i = not_due i
over Phase.Named (At b n) d i = not_due i
over (Phase.Pins m) (At b n) d i = not_due d
over Phase.Done (At b n) d i = not_due i

-- the pins behind each kind fit, and so do those that are due
pub sound : (xs : List Item) (g t : Grammar) (s u : Pins) → reached grammar xs g ≡ Some t → done t ≡ true → reached pins xs s ≡ Some u → in_phase g s ≡ true → Everywhere Pinned xs × FitPins (left s) xs
unfolding reached
sound [] g t s u q d r i = let same : g ≡ t = cc in (tt, over g s (ap done same ∙ d) i)
sound (x ∷ xs) g t s u q d r i =
    let (h, e, k) = first_step grammar x xs g t q in
    let (v, f, l) = first_step pins x xs s u r in
    let (w, y) = sound xs h t v u k d l (next_phase g h x s v e f i) in
    ((pinned_at x xs s v f y, w), fits_here g h x xs s v e f i y)

-- the other way

-- where no pin is due, all but pins is let in; a kind's pins are due behind it
idle_let : (g h : Grammar) (x : Item) (xs : List Item) → grammar_step g x ≡ Some h → in_phase g Idle ≡ true → Pinned x xs → (v : Pins) × (pin_step Idle x ≡ Some v) × FitPins (left v) xs
idle_let g h Nop xs e i w = (Idle, refl, tt)
idle_let g h (Start t) xs e i w = (Idle, refl, tt)
idle_let g h (Open t) xs e i w = (Idle, refl, tt)
idle_let g h Close xs e i w = (Idle, refl, tt)
idle_let g h (Operand o) xs e i w = (Idle, refl, tt)
idle_let g h (Operator o) xs e i w = (Idle, refl, tt)
idle_let g h (Compare c) xs e i w = (Idle, refl, tt)
idle_let g h (Assign a o) xs e i w = (Idle, refl, tt)
idle_let g h EndIf xs e i w = (Idle, refl, tt)
idle_let g h (Call j) xs e i w = (Idle, refl, tt)
idle_let g h (Kind k) xs e i w = (At k 0, refl, w)
idle_let g h (Pin o) xs e i w = let z : ◌≡◌ {A = ℕ} 0 1 = grind (arith, nat_tests) in absurd (omega arith)
idle_let g h (Direct d) xs e i w = let z : ◌≡◌ {A = ℕ} 0 1 = grind (arith, nat_tests) in absurd (omega arith)
idle_let g h (Mark m) xs e i w = (Idle, refl, tt)
idle_let g h End xs e i w = (Idle, refl, tt)

-- a pin that fits is let in
module _ (m : ℕ) (b : Block) (n : ℕ) (i : eqb (suc (n + m)) (pin_count b) ≡ true) where
  pin_let : (x : Item) (xs : List Item) → ((k : PinKind) → pin_of b n ≡ Some k → takes k x ≡ true → pin_step (At b n) x ≡ Some (next_pin b n)) → FitPins (drop n (pins_of b)) (x ∷ xs) → (v : Pins) × (pin_step (At b n) x ≡ Some v) × FitPins (left v) xs
  pin_let x xs goes w =
      let (k, q, r) = split (pins_of b) n (few n m (pin_count b) i) in
      let (c, d) = subst (λ (ps : List PinKind). FitPins ps (x ∷ xs)) r w in
      (next_pin b n, goes k q c, subst (λ (ps : List PinKind). FitPins ps xs) (sym (next_left b n)) d)

  due_let : (h : Grammar) (x : Item) (xs : List Item) → grammar_step (Phase.Pins m) x ≡ Some h → FitPins (drop n (pins_of b)) (x ∷ xs) → (v : Pins) × (pin_step (At b n) x ≡ Some v) × FitPins (left v) xs
  due_let h Nop xs e w = stopped h e
  due_let h (Start t) xs e w = stopped h e
  due_let h (Open t) xs e w = stopped h e
  due_let h Close xs e w = stopped h e
  due_let h (Operand o) xs e w = stopped h e
  due_let h (Operator o) xs e w = stopped h e
  due_let h (Compare c) xs e w = stopped h e
  due_let h (Assign a o) xs e w = stopped h e
  due_let h EndIf xs e w = stopped h e
  due_let h (Call j) xs e w = stopped h e
  due_let h (Kind k) xs e w = stopped h e
  due_let h (Pin o) xs e w = pin_let (Pin o) xs (λ k q c. cond-true _ _ _ (ap (λ (l : Option PinKind). operand_at_pin l o) q ∙ c)) w
  due_let h (Direct d) xs e w = pin_let (Direct d) xs (λ k q c. cond-true _ _ _ (ap (λ (l : Option PinKind). direct_at_pin l d) q ∙ c)) w
  due_let h (Mark k) xs e w = stopped h e
  due_let h End xs e w = stopped h e

let_in : (g h : Grammar) (x : Item) (xs : List Item) (s : Pins) → grammar_step g x ≡ Some h → in_phase g s ≡ true → Pinned x xs → FitPins (left s) (x ∷ xs) → (v : Pins) × (pin_step s x ≡ Some v) × FitPins (left v) xs
let_in g h x xs Idle e i w y = idle_let g h x xs e i w
let_in Phase.Between h x xs (At b n) e i w y = not_due i
let_in (Phase.Term d s) h x xs (At b n) e i w y = not_due i
let_in (Phase.After d s k) h x xs (At b n) e i w y = not_due i
let_in Phase.Assigned h x xs (At b n) e i w y = not_due i
let_in Phase.Named h x xs (At b n) e i w y = not_due i
let_in (Phase.Pins m) h x xs (At b n) e i w y = due_let m b n i h x xs e y
let_in Phase.Done h x xs (At b n) e i w y = not_due i

pub complete : (xs : List Item) (g t : Grammar) (s : Pins) → reached grammar xs g ≡ Some t → in_phase g s ≡ true → Everywhere Pinned xs → FitPins (left s) xs → Through pins xs s
complete [] g t s q i w y = through_none pins s
complete (x ∷ xs) g t s q i w y =
    let (h, e, k) = first_step grammar x xs g t q in
    let (v, f, n) = let_in g h x xs s e i w.0 y in
    through_more pins x xs s v f (complete xs h t v k (next_phase g h x s v e f i) w.1 n)
