-- Question 8: the rule of types lets a list through exactly when each sentence has one type.
use Rattle.std.proofs.Common.{◌≡◌, ℕ, Bool, true, false, cond, not, ◌&&◌, List, [], ◌∷◌, Some, None, Option, sym, refl, ap, ◌∙◌, subst, arith}
use Rattle.std.proofs.lemmas.Bool.Decides.{nat_tests}
use Rattle.operand.specs.declared.kind.Size.{Size}
use Rattle.operand.specs.declared.kind.Size.TheVariants.{Bit, Word, Double}
use Rattle.item.specs.declared.mnemonic.Turn.{Turn}
use Rattle.item.specs.declared.item.Item.{Item}
use Rattle.item.specs.declared.item.Item.TheVariants.{Nop, Start, Open, Close, Operand, Operator, Compare, Assign, EndIf, Call, Kind, Pin, Direct, Mark, End}
use Rattle.rule.specs.Automata.{reached, opens}
use Rattle.grammar.specs.declared.automaton.Side.{Side}
use Rattle.grammar.specs.declared.automaton.Grammar.{Grammar}
use Rattle.grammar.specs.declared.automaton.Grammar.TheVariants.{Between, Term, After, Assigned, Named, Pins, Done}
use Rattle.grammar.specs.Grammar.{grammar, grammar_step, done}
use Rattle.fitting.specs.declared.types.Types.{Types}
use Rattle.fitting.specs.declared.types.Types.TheVariants.{Idle, Pending, Bits, Words, Compared}
use Rattle.fitting.specs.Types.{types, type_step, turned_types}
use Rattle.questions.specs.Everywhere.{Everywhere}
use Rattle.questions.specs.Sentences.{turns, fits, behind, Fits, sentence, OneType, Typed}
use Rattle.questions.proofs.Runs.{Through, first_step, through_more, through_none}

abbrev idle : Types → Bool
idle Idle = true
idle (Pending b w) = false
idle Bits = false
idle Words = false
idle Compared = false

-- an operand has given the type
abbrev settled : Types → Bool
settled Idle = false
settled (Pending b w) = false
settled Bits = true
settled Words = true
settled Compared = true

-- words were compared exactly where the grammar has seen it
abbrev beside : Side → Types → Bool
beside Side.First Idle = true
beside Side.First (Pending b w) = true
beside Side.First Bits = true
beside Side.First Words = true
beside Side.First Compared = false
beside Side.Joined Idle = true
beside Side.Joined (Pending b w) = true
beside Side.Joined Bits = true
beside Side.Joined Words = true
beside Side.Joined Compared = false
beside Side.Compared Idle = false
beside Side.Compared (Pending b w) = false
beside Side.Compared Bits = false
beside Side.Compared Words = false
beside Side.Compared Compared = true

-- which states of the two rules go together
abbrev in_phase : Grammar → Types → Bool
in_phase Between s = idle s
in_phase (Term d e) s = not (idle s) && beside e s
in_phase (After d e n) s = settled s && beside e s
in_phase Assigned s = settled s
in_phase Named s = idle s
in_phase (Pins n) s = idle s
in_phase Done s = idle s

-- the terms may have the type z
abbrev agrees : Size → Types → Bool
agrees z Idle = true
agrees Bit (Pending b w) = not w
agrees Word (Pending b w) = not b
agrees Double (Pending b w) = false
agrees Bit Bits = true
agrees Word Bits = false
agrees Double Bits = false
agrees Bit Words = false
agrees Word Words = true
agrees Double Words = false
agrees Bit Compared = false
agrees Word Compared = true
agrees Double Compared = false

-- the result's type so far
abbrev result_in : Size → Types → Size
result_in z Idle = z
result_in z (Pending b w) = z
result_in z Bits = z
result_in z Words = z
result_in z Compared = Bit

abbrev type_of : Types → Size
type_of Idle = Bit
type_of (Pending b w) = Bit
type_of Bits = Bit
type_of Words = Word
type_of Compared = Word

next_phase : (g h : Grammar) (x : Item) → grammar_step g x ≡ Some h → (s v : Types) → type_step s x ≡ Some v → in_phase g s ≡ true → in_phase h v ≡ true
next_phase Between h x e s v f i = grind (arith, nat_tests)
next_phase (Term d b) h x e s v f i = grind (arith, nat_tests)
next_phase (After d Side.First n) h x e s v f i = grind (arith, nat_tests)
next_phase (After d Side.Joined n) h x e s v f i = grind (arith, nat_tests)
next_phase (After d Side.Compared n) h x e s v f i = grind (arith, nat_tests)
next_phase Assigned h x e s v f i = grind (arith, nat_tests)
next_phase Named h x e s v f i = grind (arith, nat_tests)
next_phase (Pins n) h x e s v f i = grind (arith, nat_tests)
next_phase Done h x e s v f i = grind (arith, nat_tests)

module _ (g h : Grammar) (x : Item) (e : grammar_step g x ≡ Some h) where
  idle_fits : (z r : Size) → in_phase g Idle ≡ true → opens x ≡ false → fits z r x ≡ true
  idle_fits z r i o = grind (arith, nat_tests)

  idle_stays : in_phase g Idle ≡ true → opens x ≡ false → in_phase h Idle ≡ true
  idle_stays i o = grind (arith, nat_tests)

  idle_steps : in_phase g Idle ≡ true → opens x ≡ false → type_step Idle x ≡ Some Idle
  idle_steps i o = grind (arith, nat_tests)

  opened_settled : (s : Types) → in_phase g s ≡ true → idle s ≡ false → opens x ≡ true → settled s ≡ true
  opened_settled s i j o = grind (arith, nat_tests)

  over_settled : (s v : Types) → type_step s x ≡ Some v → in_phase g s ≡ true → idle s ≡ false → opens x ≡ false → idle v ≡ true → settled s ≡ true
  over_settled s v f i j o k = grind (arith, nat_tests)

  over_fits : (s v : Types) → type_step s x ≡ Some v → in_phase g s ≡ true → idle s ≡ false → opens x ≡ false → idle v ≡ true → fits (type_of s) (result_in (type_of s) s) x ≡ true
  over_fits s v f i j o k = grind (arith, nat_tests)

  back_agrees : (z : Size) (s v : Types) → type_step s x ≡ Some v → in_phase g s ≡ true → idle s ≡ false → opens x ≡ false → idle v ≡ false → agrees z v ≡ true → agrees z s ≡ true
  back_agrees z s v f i j o k a = grind (arith, nat_tests)

  back_fits : (z : Size) (s v : Types) → type_step s x ≡ Some v → in_phase g s ≡ true → idle s ≡ false → opens x ≡ false → idle v ≡ false → agrees z v ≡ true → fits z (result_in z s) x ≡ true
  back_fits z s v f i j o k a = grind (arith, nat_tests)

  same_result : (z : Size) (s v : Types) → type_step s x ≡ Some v → in_phase g s ≡ true → idle s ≡ false → opens x ≡ false → idle v ≡ false → behind (result_in z s) x ≡ result_in z v
  same_result z s v f i j o k = grind (arith, nat_tests)

  on_agrees : (z : Size) (s v : Types) → type_step s x ≡ Some v → in_phase g s ≡ true → idle s ≡ false → opens x ≡ false → idle v ≡ false → agrees z s ≡ true → fits z (result_in z s) x ≡ true → agrees z v ≡ true
  on_agrees z s v f i j o k a b = grind (arith, nat_tests)

  no_stop : (z : Size) (s : Types) → in_phase g s ≡ true → idle s ≡ false → opens x ≡ false → agrees z s ≡ true → fits z (result_in z s) x ≡ true → type_step s x ≡ None → ◌≡◌ {A = ℕ} 0 1
  no_stop z s i j o a b f = grind (arith, nat_tests)

settled_agrees : (s : Types) → settled s ≡ true → agrees (type_of s) s ≡ true
settled_agrees s h = grind (arith, nat_tests)

over : (g : Grammar) (s : Types) → done g ≡ true → in_phase g s ≡ true → idle s ≡ true
over g s d i = grind (arith, nat_tests)

-- outside a sentence everything fits
idle_fit : (xs : List Item) (g t : Grammar) → reached grammar xs g ≡ Some t → in_phase g Idle ≡ true → (z r : Size) → Fits z r (sentence xs)
unfolding Fits sentence
idle_fit [] g t q i z r = tt
idle_fit (x ∷ xs) g t q i z r =
    let (h, e, k) = first_step grammar x xs g t q in
    by (opens x) refl (λ o. (idle_fits g h x e z r i o, idle_fit xs h t k (idle_stays g h x e i o) z (behind r x)))
  where
    by : (b : Bool) → opens x ≡ b → (opens x ≡ false → (fits z r x ≡ true) × Fits z (behind r x) (sentence xs)) → Fits z r (cond b [] (x ∷ sentence xs))
    by true o f = tt
    by false o f = f o

-- what is left of a sentence fits a type that agrees with what came before
abbrev Fitting : Types → List Item → Type 0
Fitting s ys = (z : Size) × (agrees z s ≡ true) × Fits z (result_in z s) ys

-- one item of a sentence more
module _ (g h : Grammar) (x : Item) (e : grammar_step g x ≡ Some h) (s v : Types) (f : type_step s x ≡ Some v) (i : in_phase g s ≡ true) (j : idle s ≡ false) (ys : List Item)
    (idles : (z : Size) → in_phase h Idle ≡ true → (r : Size) → Fits z r ys) (goes : in_phase h v ≡ true → idle v ≡ false → Fitting v ys) where
  is_idle : (w : Types) → idle w ≡ true → in_phase h w ≡ true → in_phase h Idle ≡ true
  is_idle w a b = grind (arith, nat_tests)

  goes_on : opens x ≡ false → (b : Bool) → idle v ≡ b → Fitting s (x ∷ ys)
  unfolding Fits
  goes_on o true k =
      (type_of s, settled_agrees s (over_settled g h x e s v f i j o k), (over_fits g h x e s v f i j o k, idles (type_of s) (is_idle v k (next_phase g h x e s v f i)) (behind (result_in (type_of s) s) x)))
  goes_on o false k =
      let (z, a, w) = goes (next_phase g h x e s v f i) k in
      (z, back_agrees g h x e z s v f i j o k a, (back_fits g h x e z s v f i j o k a, subst (λ (r : Size). Fits z r ys) (sym (same_result g h x e z s v f i j o k)) w))

  pub on_open : (b : Bool) → opens x ≡ b → Fitting s (cond b [] (x ∷ ys))
  unfolding Fits
  on_open true o = (type_of s, settled_agrees s (opened_settled g h x e s i j o), tt)
  on_open false o = goes_on o (idle v) refl

sentence_fits : (xs : List Item) (g t : Grammar) (s u : Types) → reached grammar xs g ≡ Some t → done t ≡ true → reached types xs s ≡ Some u → in_phase g s ≡ true → idle s ≡ false → Fitting s (sentence xs)
unfolding Fits sentence reached
sentence_fits [] g t s u q d r i j = let same : g ≡ t = cc in let m = over g s (ap done same ∙ d) i in let z : ◌≡◌ {A = Bool} false true = sym j ∙ m in cc
sentence_fits (x ∷ xs) g t s u q d r i j =
    let (h, e, k) = first_step grammar x xs g t q in
    let (v, f, l) = first_step types x xs s u r in
    on_open g h x e s v f i j (sentence xs) (λ z w. idle_fit xs h t k w z) (λ m n. sentence_fits xs h t v u k d l m n) (opens x) refl

-- where a sentence starts

abbrev pended : Turn → Types
pended Turn.Plain = Pending false false
pended Turn.Not = Pending true false
pended Turn.Minus = Pending false true

starts_pending : (t : Turn) (v : Types) → turned_types (Pending false false) t ≡ Some v → (z : Size) → agrees z v ≡ true → turns z t ≡ true
starts_pending t v f z a = grind (arith, nat_tests)

starts_plain : (t : Turn) (v : Types) → turned_types (Pending false false) t ≡ Some v → (z : Size) → result_in z v ≡ z
starts_plain t v f z = grind (arith, nat_tests)

starts_busy : (t : Turn) (v : Types) → turned_types (Pending false false) t ≡ Some v → idle v ≡ false
starts_busy t v f = grind (arith, nat_tests)

one_type : (t : Turn) (v : Types) (xs : List Item) → turned_types (Pending false false) t ≡ Some v → Fitting v (sentence xs) → OneType (Start t ∷ sentence xs)
unfolding Fits
one_type t v xs f (z, a, w) = (z, (starts_pending t v f z a, subst (λ (r : Size). Fits z r (sentence xs)) (starts_plain t v f z) w))

typed_at : (x : Item) (xs : List Item) (g h t : Grammar) (s v u : Types) → grammar_step g x ≡ Some h → type_step s x ≡ Some v → in_phase h v ≡ true → reached grammar xs h ≡ Some t → done t ≡ true → reached types xs v ≡ Some u → Typed x xs
typed_at Nop xs g h t s v u e f i q d r = tt
typed_at (Start turn) xs g h t s v u e f i q d r = one_type turn v xs f (sentence_fits xs h t v u q d r i (starts_busy turn v f))
typed_at (Open turn) xs g h t s v u e f i q d r = tt
typed_at Close xs g h t s v u e f i q d r = tt
typed_at (Operand o) xs g h t s v u e f i q d r = tt
typed_at (Operator o) xs g h t s v u e f i q d r = tt
typed_at (Compare c) xs g h t s v u e f i q d r = tt
typed_at (Assign a o) xs g h t s v u e f i q d r = tt
typed_at EndIf xs g h t s v u e f i q d r = tt
typed_at (Call n) xs g h t s v u e f i q d r = tt
typed_at (Kind b) xs g h t s v u e f i q d r = tt
typed_at (Pin o) xs g h t s v u e f i q d r = tt
typed_at (Direct w) xs g h t s v u e f i q d r = tt
typed_at (Mark m) xs g h t s v u e f i q d r = tt
typed_at End xs g h t s v u e f i q d r = tt

pub sound : (xs : List Item) (g t : Grammar) (s u : Types) → reached grammar xs g ≡ Some t → done t ≡ true → reached types xs s ≡ Some u → in_phase g s ≡ true → Everywhere Typed xs
sound [] g t s u q d r i = tt
sound (x ∷ xs) g t s u q d r i =
    let (h, e, k) = first_step grammar x xs g t q in
    let (v, f, l) = first_step types x xs s u r in
    let j = next_phase g h x e s v f i in
    (typed_at x xs g h t s v u e f j k d l, sound xs h t v u k d l j)

-- the other way

abbrev Cont : Types → List Item → Type 0
Cont s xs = idle s ≡ false → Fitting s (sentence xs)

-- a start
agreed : (t : Turn) (z : Size) → turns z t ≡ true → agrees z (pended t) ≡ true
agreed t z h = grind (arith, nat_tests)

plain : (t : Turn) (z : Size) → z ≡ result_in z (pended t)
plain t z = grind (arith, nat_tests)

turned : (t : Turn) → turned_types (Pending false false) t ≡ Some (pended t)
turned t = grind (arith, nat_tests)

started : (t : Turn) (xs : List Item) → OneType (Start t ∷ sentence xs) → (v : Types) × (turned_types (Pending false false) t ≡ Some v) × Cont v xs
unfolding Fits
started t xs (z, (h, k)) = (pended t, turned t, λ b. (z, agreed t z h, subst (λ (r : Size). Fits z r (sentence xs)) (plain t z) k))

-- the state behind an item that opens
opened_to : (x : Item) (xs : List Item) (s : Types) → opens x ≡ true → Typed x xs → (v : Types) × (type_step s x ≡ Some v) × Cont v xs
opened_to Nop xs s o w = cc
opened_to (Start t) xs s o w = started t xs w
opened_to (Open t) xs s o w = cc
opened_to Close xs s o w = cc
opened_to (Operand a) xs s o w = cc
opened_to (Operator a) xs s o w = cc
opened_to (Compare c) xs s o w = cc
opened_to (Assign f a) xs s o w = cc
opened_to EndIf xs s o w = cc
opened_to (Call n) xs s o w = (Idle, refl, λ j. cc)
opened_to (Kind b) xs s o w = cc
opened_to (Pin a) xs s o w = cc
opened_to (Direct a) xs s o w = cc
opened_to (Mark m) xs s o w = (Idle, refl, λ j. cc)
opened_to End xs s o w = (Idle, refl, λ j. cc)

-- the state behind an item that does not
module _ (g h : Grammar) (x : Item) (e : grammar_step g x ≡ Some h) (s : Types) (i : in_phase g s ≡ true) (o : opens x ≡ false) (xs : List Item) where
  busy : idle s ≡ false → Fitting s (x ∷ sentence xs) → (r : Option Types) → type_step s x ≡ r → (v : Types) × (type_step s x ≡ Some v) × Cont v xs
  unfolding Fits
  busy j (z, a, (b, w)) None f = let y = no_stop g h x e z s i j o a b f in absurd (omega arith)
  busy j (z, a, (b, w)) (Some v) f =
      (v, f, λ k. (z, on_agrees g h x e z s v f i j o k a b, subst (λ (r : Size). Fits z r (sentence xs)) (same_result g h x e z s v f i j o k) w))

  none_begun : idle s ≡ true → s ≡ Idle
  none_begun k = grind (arith, nat_tests)

  calm : idle s ≡ true → (v : Types) × (type_step s x ≡ Some v) × Cont v xs
  calm k =
      let n = none_begun k in
      (Idle, subst (λ (a : Types). type_step a x ≡ Some Idle) (sym n) (idle_steps g h x e (subst (λ (a : Types). in_phase g a ≡ true) n i) o), λ j. cc)

  pub unopened_to : (b : Bool) → idle s ≡ b → (idle s ≡ false → Fitting s (cond (opens x) [] (x ∷ sentence xs))) → (v : Types) × (type_step s x ≡ Some v) × Cont v xs
  unopened_to true k c = calm k
  unopened_to false k c = busy k (subst (λ (p : Bool). Fitting s (cond p [] (x ∷ sentence xs))) o (c k)) (type_step s x) refl

next_state : (g h : Grammar) (x : Item) → grammar_step g x ≡ Some h → (s : Types) → in_phase g s ≡ true → (xs : List Item) → Typed x xs → (idle s ≡ false → Fitting s (cond (opens x) [] (x ∷ sentence xs))) → (b : Bool) → opens x ≡ b → (v : Types) × (type_step s x ≡ Some v) × Cont v xs
next_state g h x e s i xs w c true o = opened_to x xs s o w
next_state g h x e s i xs w c false o = unopened_to g h x e s i o xs (idle s) refl c

pub complete : (xs : List Item) (g t : Grammar) (s : Types) → reached grammar xs g ≡ Some t → in_phase g s ≡ true → Everywhere Typed xs → Cont s xs → Through types xs s
unfolding sentence
complete [] g t s q i w c = through_none types s
complete (x ∷ xs) g t s q i w c =
    let (h, e, k) = first_step grammar x xs g t q in
    let (v, f, n) = next_state g h x e s i xs w.0 c (opens x) refl in
    through_more types x xs s v f (complete xs h t v k (next_phase g h x e s v f i) w.1 n)
