-- The first place where a test holds.
use Rattle.std.proofs.Common.{◌≡◌, ℕ, zero, suc, ◌+◌, ◌-◌, ◌<◌, ◌≤◌, Bool, true, false, cond, eqb, leb, Some, None, Option, sym, refl, ap, ◌∙◌, subst, ⊎_elim, arith, MatchOption}
use Rattle.std.proofs.lemmas.Bool.{cases_lt}
use Rattle.std.proofs.lemmas.Bool.Decides.{nat_tests}
use Rattle.marks.specs.Places.{first_of, first_place, First}

-- a place from p on is p or comes later
by_place : {Q : Type 0} (p k : ℕ) → p ≤ k → (k ≡ p → Q) → (p + 1 ≤ k → Q) → (b : Bool) → eqb k p ≡ b → Q
by_place p k h same more true t = same (grind (arith, nat_tests))
by_place p k h same more false t = more (grind (arith, nat_tests))

here_or_later : {Q : Type 0} (p k : ℕ) → p ≤ k → (k ≡ p → Q) → (p + 1 ≤ k → Q) → Q
here_or_later p k h same more = by_place p k h same more (eqb k p) refl

module _ (test : ℕ → Bool) (end : ℕ) where
  pub ended : (i : ℕ) → end ≤ i → None ≡ first_place test i end
  unfolding first_of
  ended i h = let none : 0 ≡ end - i = omega arith in ap (λ (n : ℕ). first_of test n i) none

  -- the answer for so many places, in words
  abbrev Within : ℕ → ℕ → Option ℕ → Type 0
  Within n p r = First test p (p + n) r

  never : (k p : ℕ) → test p ≡ false → k ≡ p → test k ≡ true → ⊥
  never k p f e t = let z : ◌≡◌ {A = Bool} false true = sym f ∙ (ap test (sym e) ∙ t) in cc

  -- nothing at p, and what comes behind it
  later : (n p : ℕ) → test p ≡ false → (r : Option ℕ) → Within n (p + 1) r → Within (suc n) p r
  later n p f (Some q) (a, b, c, d) = (omega arith, omega arith, c, λ k i j t. here_or_later p k i (λ e. never k p f e t) (λ l. d k l j t))
  later n p f None d = λ k i j t. here_or_later p k i (λ e. never k p f e t) (λ l. d k l (omega arith) t)

  met : (n p : ℕ) (r : Option ℕ) → Within n (p + 1) r → (b : Bool) → test p ≡ b → Within (suc n) p (cond b (Some p) r)
  met n p r w true t = (omega arith, omega arith, t, λ k i j u. omega arith)
  met n p r w false t = later n p t r w

  exact_of : (n p : ℕ) → Within n p (first_of test n p)
  unfolding first_of
  exact_of zero p = λ k i j t. omega arith
  exact_of (suc n) p = met n p (first_of test n (p + 1)) (exact_of n (p + 1)) (test p) refl

  past : (p : ℕ) → end ≤ p → (r : Option ℕ) → r ≡ None → First test p end r
  past p h None q = λ k i j t. omega arith
  past p h (Some q) e = cc

  pub exact : (p : ℕ) → First test p end (first_place test p end)
  exact p = by (leb end p) refl
    where
      by : (b : Bool) → leb end p ≡ b → First test p end (first_place test p end)
      by true t = past p (grind (arith, nat_tests)) (first_place test p end) (sym (ended p (grind (arith, nat_tests))))
      by false t = let same : p + (end - p) ≡ end = grind (arith, nat_tests) in subst (λ (n : ℕ). First test p n (first_place test p end)) same (exact_of (end - p) p)

  -- what a walk over the places found is that answer
  pub is_first : (p n : ℕ) (r : Option ℕ) → n ≡ end
      → MatchOption r ((k : ℕ) → p ≤ k → k < n → test k ≡ false) (λ q. (p ≤ q) × (q < n) × (test q ≡ true) × ((k : ℕ) → p ≤ k → k < q → test k ≡ false))
      → r ≡ first_place test p end
  is_first p n None same h = by (first_place test p end) (exact p)
    where
      by : (o : Option ℕ) → First test p end o → None ≡ o
      by None e = refl
      by (Some q) (a, b, c, d) = absurd (never q q (h q a (omega arith)) refl c)
  is_first p n (Some q) same (a, b, c, d) = by (first_place test p end) (exact p)
    where
      by : (o : Option ℕ) → First test p end o → Some q ≡ o
      by None e = absurd (e q a (omega arith) c)
      by (Some k) (u, v, w, x) = ⊎_elim (λ l. absurd (x q a l c)) (λ l. ⊎_elim (λ m. absurd (never k k (d k u m) refl w)) (λ m. ap Some (omega arith)) (cases_lt k q)) (cases_lt q k)
