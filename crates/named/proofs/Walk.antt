-- The first item whose point is not fitted is the one that the answer over all items tells.
use Rattle.std.proofs.Common.{◌≡◌, ℕ, zero, suc, ◌≤◌, List, Some, None, Ok, Err, Option, Result, sym, refl, ap, ◌∙◌, subst, ⊎_elim, arith, MatchResult, below_more, ◌+◌, ◌/◌, ◌∷◌, length}
use Rattle.item.specs.declared.item.Item.{Item}
use Rattle.decode.specs.Words.{items_from}
use Rattle.decode.proofs.Places.{item_here}
use Rattle.std.proofs.lemmas.Bool.{cases_lt}
use Rattle.operand.specs.declared.edition.Edition.{Edition}
use Rattle.plant.specs.declared.fault.Unfitted.{Unfitted}
use Rattle.plant.specs.Points.{Point, absent, wired, Meaning, Fitted, fault_at}
use Rattle.plant.specs.Faults.{Told, told_of}
use Rattle.named.specs.declared.point.NamedPoint.{NamedPoint}
use Rattle.named.specs.Naming.{known_point, point_at}
use Rattle.named.specs.Fitting.{Fits, AllFit, UnfittedAt, FirstUnfitted, fit_at, fit_named, or_else, fitting}

fit_so : (layer place p : ℕ) (x : Point) → Fitted x → fit_at layer place p x ≡ Ok tt
fit_so layer place p absent f = absurd f
fit_so layer place p (wired i o) f = refl

named_fit : (m : Meaning) (layer place : ℕ) (o : Option NamedPoint) → Fits m o → fit_named m layer place o ≡ Ok tt
named_fit m layer place None f = refl
named_fit m layer place (Some n) f = fit_so layer place n.point (m n.point) f

module _ (m : Meaning) (layer : ℕ) (e : Edition) (ws : List ℕ) where
  all_fit : (n : ℕ) → AllFit m e ws n → fitting m layer e ws n ≡ Ok tt
  unfolding fitting
  all_fit zero h = refl
  all_fit (suc n) h =
      ap (λ (r : Result (Unit {0}) Unfitted). or_else r (fit_named m layer n (point_at e ws n))) (all_fit n (λ q l. h q (omega arith)))
      ∙ named_fit m layer n (point_at e ws n) (h n (omega arith))

  -- a refusal stays, however many items follow
  stays : (u : Unfitted) (k n : ℕ) → k ≤ n → fitting m layer e ws k ≡ Err u → fitting m layer e ws n ≡ Err u
  unfolding fitting
  stays u k zero l h = let q : zero ≡ k = omega arith in ap (fitting m layer e ws) q ∙ h
  stays u k (suc n) l h =
      ⊎_elim
      (λ b. let q : suc n ≡ k = omega arith in ap (fitting m layer e ws) q ∙ h)
      (λ b. ap (λ (r : Result (Unit {0}) Unfitted). or_else r (fit_named m layer n (point_at e ws n))) (stays u k n b h))
      (cases_lt n k)

  first : (u : Unfitted) (n : ℕ) → FirstUnfitted m layer e ws n u → fitting m layer e ws n ≡ Err u
  unfolding fitting
  first u n x =
      let p = u.place in
      let w = x.within in
      let a = x.at in
      let this : fitting m layer e ws (suc p) ≡ fit_at layer p a.names.point absent =
      ap (λ (r : Result (Unit {0}) Unfitted). or_else r (fit_named m layer p (point_at e ws p))) (all_fit p x.before)
      ∙ (ap (fit_named m layer p) a.here ∙ ap (fit_at layer p a.names.point) a.unfitted) in
      let point = ap (λ (t : Told). t.point) a.told in
      let from = ap (λ (t : Told). t.layer) a.told in
      stays u (suc p) n (omega arith) (this ∙ sym (λ i. Err (record { place = p; fault = record { point = point i; layer = from i } })))

  pub pinned : (n : ℕ) (r : Result (Unit {0}) Unfitted) → MatchResult r (λ _. AllFit m e ws n) (FirstUnfitted m layer e ws n) → r ≡ fitting m layer e ws n
  pinned n (Ok t) h = sym (all_fit n h)
  pinned n (Err u) h = sym (first u n h)

  fits_so : (place : ℕ) (o : Option NamedPoint) → Ok tt ≡ fit_named m layer place o → Fits m o
  fits_so place None h = tt
  fits_so place (Some n) h = by (m n.point) h
    where
      by : (x : Point) → Ok tt ≡ fit_at layer place n.point x → Fitted x
      by absent q = cc
      by (wired i o) q = tt

  unfit_so : (place : ℕ) (o : Option NamedPoint) (u : Unfitted) → point_at e ws place ≡ o → Err u ≡ fit_named m layer place o → (u.place ≡ place) × UnfittedAt m layer e ws place u
  unfit_so place None u h q = cc
  unfit_so place (Some n) u h q = by (m n.point) refl q
    where
      by : (x : Point) → m n.point ≡ x → Err u ≡ fit_at layer place n.point x → (u.place ≡ place) × UnfittedAt m layer e ws place u
      by absent a r =
          let same : u ≡ record { place = place; fault = fault_at layer n.point } = cc in
          (ap (λ (v : Unfitted). v.place) same, record { names = n; here = h; unfitted = a; told = ap told_of same })
      by (wired i o) a r = cc

  -- a walk over the items, at place p: one that fits, and the first that does not
  module _ (p place : ℕ) (xs ys : List (Option Item)) (x : Option Item) (walk : xs ≡ items_from e ws p) (next : xs ≡ x ∷ ys) (here : place ≡ p) (before : AllFit m e ws p) where
    pub one_fits : Ok tt ≡ fit_named m layer place (known_point x) → AllFit m e ws (p + 1)
    one_fits h =
        let (l, q, r) = item_here e ws p xs ys x walk next in
        below_more _ _ before (subst (λ (o : Option Item). Fits m (known_point o)) q (fits_so place (known_point x) h))

    pub one_unfit : (u : Unfitted) → Err u ≡ fit_named m layer place (known_point x) → FirstUnfitted m layer e ws (length ws / 2) u
    one_unfit u h =
        let (l, q, r) = item_here e ws p xs ys x walk next in
        let at : point_at e ws place ≡ known_point x = ap (point_at e ws) here ∙ ap known_point (sym q) in
        let (a, b) = unfit_so place (known_point x) u at h in
        let same : p ≡ u.place = omega arith in
        record { within = omega arith; before = subst (AllFit m e ws) same before; at = subst (λ (n : ℕ). UnfittedAt m layer e ws n u) (sym a) b }
