-- Question 11: no jump goes astray exactly when each has its mark ahead.
use Rattle.std.proofs.Common.{◌≡◌, ℕ, zero, suc, ◌+◌, ◌-◌, ◌/◌, ◌<◌, ◌≤◌, Bool, true, false, cond, ltb, List, [], ◌∷◌, length, Some, None, Option, sym, refl, ap, ◌∙◌, subst, inl, inr, arith}
use Rattle.std.proofs.lemmas.Bool.Decides.{nat_tests}
use Rattle.std.proofs.lemmas.Bool.{cond-true}
use Rattle.operand.specs.declared.edition.Edition.{Edition}
use Rattle.catalogue.specs.declared.Block.TheVariants.{Esv, Moa, RisingEdge, Ctud, Muldi, Zuwd, Spbm}
use Rattle.item.specs.declared.item.Item.{Item}
use Rattle.item.specs.declared.item.Item.TheVariants.{Nop, Start, Open, Close, Operand, Operator, Compare, Assign, EndIf, Call, Kind, Pin, Direct, Mark, End}
use Rattle.rule.specs.Automata.{known}
use Rattle.decode.specs.Words.{item_at, items_from}
use Rattle.decode.proofs.Places.{items_more}
use Rattle.marks.specs.Places.{First}
use Rattle.marks.specs.Marks.{next_mark, Next, Marked}
use Rattle.marks.specs.Jumps.{jumps, direct_in, direct_at, target_at, astray_to, astray, missing, jump_fault}
use Rattle.marks.proofs.Firsts.{exact}
use Rattle.marks.proofs.Numbers.{next_exact}
use Rattle.questions.specs.Everywhere.{Everywhere}
use Rattle.questions.specs.Jumps.{Ahead, SecondAhead, Led}
use Rattle.questions.proofs.Places.{at_place, behind_place, how_many}

module _ (e : Edition) (ws : List ℕ) where
  abbrev N : ℕ
  N = length ws / 2

  none_left : (p : ℕ) → p < N → items_from e ws p ≡ known [] → ⊥
  unfolding known
  none_left p l h = let more = items_more e ws p l in cc

  -- a mark at a later place is among the items from here on
  marked_ahead : (k p m : ℕ) (xs : List Item) → items_from e ws p ≡ known xs → p + k < N → Marked e ws m (p + k) → Ahead m xs
  marked_ahead k p m [] h l t = none_left p (omega arith) h
  marked_ahead zero p m (x ∷ xs) h l t =
      let here : p + 0 ≡ p = omega arith in
      let is = at_place e ws p x xs (omega arith) h in
      let found : item_at e ws p ≡ Some (Mark m) = subst (λ (q : ℕ). item_at e ws q ≡ Some (Mark m)) here t in
      let same : x ≡ Mark m = cc in
      inl same
  marked_ahead (suc k) p m (x ∷ xs) h l t =
      let on : p + suc k ≡ p + 1 + k = omega arith in
      inr (marked_ahead k (p + 1) m xs (behind_place e ws p x xs (omega arith) h) (omega arith) (subst (λ (q : ℕ). item_at e ws q ≡ Some (Mark m)) on t))

  -- and a mark among them stands at a later place
  abbrev Later : ℕ → ℕ → Type 0
  Later p m = (q : ℕ) × (p ≤ q) × (q < N) × Marked e ws m q

  ahead_marked : (p m : ℕ) (xs : List Item) → items_from e ws p ≡ known xs → p + length xs ≡ N → Ahead m xs → Later p m
  ahead_marked p m [] h n a = absurd a
  ahead_marked p m (x ∷ xs) h n (inl s) = (p, omega arith, omega arith, at_place e ws p x xs (omega arith) h ∙ ap (λ (i : Item). Some i) s)
  ahead_marked p m (x ∷ xs) h n (inr a) =
      let (q, i, j, t) = ahead_marked (p + 1) m xs (behind_place e ws p x xs (omega arith) h) (omega arith) a in
      (q, omega arith, j, t)

  -- whether the item at a place goes astray hangs on the item
  astray_as : ℕ → Option Item → Bool
  astray_as p o = astray_to e ws p (cond (jumps o) (direct_at e ws (p + 2)) None)

  -- the second pin
  second_at : (p m : ℕ) (x y : Item) (xs : List Item) → items_from e ws (p + 1) ≡ known (x ∷ y ∷ xs) → p + 1 + length (x ∷ y ∷ xs) ≡ N → item_at e ws (p + 2) ≡ Some y
  second_at p m x y xs h n =
      let on : p + 1 + 1 ≡ p + 2 = omega arith in
      let next = behind_place e ws (p + 1) x (y ∷ xs) (omega arith) h in
      at_place e ws (p + 2) y xs (omega arith) (subst (λ (q : ℕ). items_from e ws q ≡ known (y ∷ xs)) on next)

  direct_there : (p m : ℕ) → p < N → item_at e ws p ≡ Some (Direct m) → direct_at e ws p ≡ Some m
  direct_there p m l h = let t : ltb p N ≡ true = grind (arith, nat_tests) in cond-true _ _ _ t ∙ ap direct_in h

  found : (p m : ℕ) (xs : List Item) → items_from e ws (p + 1) ≡ known xs → (r : Option ℕ) → next_mark e ws (p + 1) m ≡ r → Next e ws (p + 1) m r → (missing r ≡ true → ⊥) → Ahead m xs
  found p m xs h None q w never = absurd (never refl)
  found p m xs h (Some q) r (i, j, t, b) never =
      let k : p + 1 + (q - (p + 1)) ≡ q = omega arith in
      marked_ahead (q - (p + 1)) (p + 1) m xs h (omega arith) (subst (λ (n : ℕ). item_at e ws n ≡ Some (Mark m)) (sym k) t)

  -- a jump that does not go astray has its mark ahead
  jump_led : (p : ℕ) (xs : List Item) → p < N → item_at e ws p ≡ Some (Kind Spbm) → items_from e ws (p + 1) ≡ known xs → p + 1 + length xs ≡ N → (astray e ws p ≡ true → ⊥) → SecondAhead xs
  jump_led p xs l k h n never m x ys s =
      let h' : items_from e ws (p + 1) ≡ known (x ∷ Direct m ∷ ys) = subst (λ (zs : List Item). items_from e ws (p + 1) ≡ known zs) s h in
      let n' : p + 1 + length (x ∷ Direct m ∷ ys) ≡ N = subst (λ (zs : List Item). p + 1 + length zs ≡ N) s n in
      let two = second_at p m x (Direct m) ys h' n' in
      let there = direct_there (p + 2) m (omega arith) two in
      let goes : target_at e ws p ≡ Some m = ap (λ (o : Option Item). cond (jumps o) (direct_at e ws (p + 2)) None) k ∙ there in
      found p m xs h (next_mark e ws (p + 1) m) refl (next_exact e ws (p + 1) m) (λ t. never (ap (astray_to e ws p) goes ∙ t))

  led_at : (x : Item) (p : ℕ) (xs : List Item) → p < N → item_at e ws p ≡ Some x → items_from e ws (p + 1) ≡ known xs → p + 1 + length xs ≡ N → (astray e ws p ≡ true → ⊥) → Led x xs
  led_at Nop p xs l k h n never = tt
  led_at (Start t) p xs l k h n never = tt
  led_at (Open t) p xs l k h n never = tt
  led_at Close p xs l k h n never = tt
  led_at (Operand o) p xs l k h n never = tt
  led_at (Operator o) p xs l k h n never = tt
  led_at (Compare c) p xs l k h n never = tt
  led_at (Assign f o) p xs l k h n never = tt
  led_at EndIf p xs l k h n never = tt
  led_at (Call j) p xs l k h n never = tt
  led_at (Kind Esv) p xs l k h n never = tt
  led_at (Kind Moa) p xs l k h n never = tt
  led_at (Kind RisingEdge) p xs l k h n never = tt
  led_at (Kind Ctud) p xs l k h n never = tt
  led_at (Kind Muldi) p xs l k h n never = tt
  led_at (Kind Zuwd) p xs l k h n never = tt
  led_at (Kind Spbm) p xs l k h n never = jump_led p xs l k h n never
  led_at (Pin o) p xs l k h n never = tt
  led_at (Direct w) p xs l k h n never = tt
  led_at (Mark m) p xs l k h n never = tt
  led_at End p xs l k h n never = tt

  all_led : (p : ℕ) (xs : List Item) → items_from e ws p ≡ known xs → p + length xs ≡ N → ((q : ℕ) → q < N → astray e ws q ≡ true → ⊥) → Everywhere Led xs
  all_led p [] h n never = tt
  all_led p (x ∷ xs) h n never =
      let l : p < N = omega arith in
      let next = behind_place e ws p x xs l h in
      (led_at x p xs l (at_place e ws p x xs l h) next (omega arith) (never p l), all_led (p + 1) xs next (omega arith) never)

  -- the other way

  no_mark : (r : Option ℕ) → missing r ≡ true → r ≡ None
  no_mark None h = refl
  no_mark (Some q) h = cc

  stands_direct : (o : Option Item) (m : ℕ) → direct_in o ≡ Some m → o ≡ Some (Direct m)
  stands_direct o m h = grind (arith, nat_tests)

  directly : (p m : ℕ) → direct_at e ws p ≡ Some m → (p < N) × (item_at e ws p ≡ Some (Direct m))
  directly p m h = by (ltb p N) refl h
    where
      by : (b : Bool) → ltb p N ≡ b → cond b (direct_in (item_at e ws p)) None ≡ Some m → (p < N) × (item_at e ws p ≡ Some (Direct m))
      by true t d = (grind (arith, nat_tests), stands_direct (item_at e ws p) m d)
      by false t d = cc

  two_more : (p m : ℕ) (xs : List Item) → items_from e ws (p + 1) ≡ known xs → p + 1 + length xs ≡ N → p + 2 < N → item_at e ws (p + 2) ≡ Some (Direct m) → (x : Item) × (ys : List Item) × (xs ≡ x ∷ Direct m ∷ ys)
  two_more p m [] h n l d = absurd (omega arith)
  two_more p m (x ∷ []) h n l d = absurd (omega arith)
  two_more p m (x ∷ y ∷ ys) h n l d = let is = second_at p m x y ys h n in let same : y ≡ Direct m = cc in (x, ys, ap (λ (i : Item). x ∷ i ∷ ys) same)

  not_led : (p : ℕ) (xs : List Item) → items_from e ws (p + 1) ≡ known xs → p + 1 + length xs ≡ N → SecondAhead xs → (d : Option ℕ) → direct_at e ws (p + 2) ≡ d → astray_to e ws p d ≡ true → ⊥
  not_led p xs h n led None q t = cc
  not_led p xs h n led (Some m) q t =
      let (l, d) = directly (p + 2) m q in
      let (x, ys, s) = two_more p m xs h n l d in
      let (k, i, j, found) = ahead_marked (p + 1) m xs h n (led m x ys s) in
      let gone = no_mark (next_mark e ws (p + 1) m) t in
      subst (Next e ws (p + 1) m) gone (next_exact e ws (p + 1) m) k i j found

  not_astray_as : (x : Item) (p : ℕ) (xs : List Item) → items_from e ws (p + 1) ≡ known xs → p + 1 + length xs ≡ N → Led x xs → astray_as p (Some x) ≡ true → ⊥
  unfolding astray_as
  not_astray_as Nop p xs h n led t = cc
  not_astray_as (Start u) p xs h n led t = cc
  not_astray_as (Open u) p xs h n led t = cc
  not_astray_as Close p xs h n led t = cc
  not_astray_as (Operand o) p xs h n led t = cc
  not_astray_as (Operator o) p xs h n led t = cc
  not_astray_as (Compare c) p xs h n led t = cc
  not_astray_as (Assign f o) p xs h n led t = cc
  not_astray_as EndIf p xs h n led t = cc
  not_astray_as (Call j) p xs h n led t = cc
  not_astray_as (Kind Esv) p xs h n led t = cc
  not_astray_as (Kind Moa) p xs h n led t = cc
  not_astray_as (Kind RisingEdge) p xs h n led t = cc
  not_astray_as (Kind Ctud) p xs h n led t = cc
  not_astray_as (Kind Muldi) p xs h n led t = cc
  not_astray_as (Kind Zuwd) p xs h n led t = cc
  not_astray_as (Kind Spbm) p xs h n led t = not_led p xs h n led (direct_at e ws (p + 2)) refl t
  not_astray_as (Pin o) p xs h n led t = cc
  not_astray_as (Direct w) p xs h n led t = cc
  not_astray_as (Mark m) p xs h n led t = cc
  not_astray_as End p xs h n led t = cc

  -- of so many places from p on none goes astray
  none_astray : (k p : ℕ) (xs : List Item) → items_from e ws p ≡ known xs → p + length xs ≡ N → Everywhere Led xs → p + k < N → astray e ws (p + k) ≡ true → ⊥
  unfolding astray_as
  none_astray k p [] h n led l t = absurd (omega arith)
  none_astray zero p (x ∷ xs) h n led l t =
      let here : p + 0 ≡ p = omega arith in
      let o = at_place e ws p x xs (omega arith) h in
      not_astray_as x p xs (behind_place e ws p x xs (omega arith) h) (omega arith) led.0 (ap (astray_as p) (sym o) ∙ subst (λ (q : ℕ). astray e ws q ≡ true) here t)
  none_astray (suc k) p (x ∷ xs) h n led l t =
      let on : p + suc k ≡ p + 1 + k = omega arith in
      none_astray k (p + 1) xs (behind_place e ws p x xs (omega arith) h) (omega arith) led.1 (omega arith) (subst (λ (q : ℕ). astray e ws q ≡ true) on t)

  no_fault : ((q : ℕ) → q < N → astray e ws q ≡ true → ⊥) → (r : Option ℕ) → First (astray e ws) 0 N r → r ≡ None
  no_fault never None f = refl
  no_fault never (Some q) (i, j, t, b) = absurd (never q j t)

  module _ (xs : List Item) (h : items_from e ws 0 ≡ known xs) where
    all_of : 0 + length xs ≡ N
    all_of = let n = how_many e ws N 0 xs (omega arith) h in omega arith

    pub sound : jump_fault e ws ≡ None → Everywhere Led xs
    sound f =
        let none : First (astray e ws) 0 N None = subst (First (astray e ws) 0 N) f (exact (astray e ws) N 0) in
        all_led 0 xs h all_of (λ q l t. none q (omega arith) l t)

    pub complete : Everywhere Led xs → jump_fault e ws ≡ None
    complete led = no_fault (λ q l t. none_astray q 0 xs h all_of led (omega arith) (subst (λ (k : ℕ). astray e ws k ≡ true) (omega arith) t)) (jump_fault e ws) (exact (astray e ws) N 0)
