-- Questions that all get a yes.
use Rattle.std.proofs.Common.{◌≡◌, ℕ, Bool, true, false, List, [], ◌∷◌, ◌++◌, Some, None, Option, sym, refl, ap, ◌∙◌}
use Rattle.told.specs.declared.Told.{Told}
use Rattle.checker.specs.Verdict.{Question, unless, no_or, first_no, then_no, unless_refused, passed}

-- each gets a yes
abbrev pub Clear : {A : Type 0} → List (Question A) → A → Type 0
Clear [] a = Unit {0}
Clear (q ∷ qs) a = (q.fault a ≡ None) × Clear qs a

pub all_clear : {A : Type 0} (qs : List (Question A)) (a : A) → Clear qs a → first_no qs a ≡ None
all_clear [] a c = refl
all_clear (q ∷ qs) a c = ap (λ (o : Option ℕ). no_or q.number o (first_no qs a)) c.0 ∙ all_clear qs a c.1

both_clear : (n : ℕ) (o : Option ℕ) (r : Option Told) → no_or n o r ≡ None → (o ≡ None) × (r ≡ None)
both_clear n None r h = (refl, h)
both_clear n (Some p) r h = cc

pub each_clear : {A : Type 0} (qs : List (Question A)) (a : A) → first_no qs a ≡ None → Clear qs a
each_clear [] a h = tt
each_clear (q ∷ qs) a h = let (o, r) = both_clear q.number (q.fault a) (first_no qs a) h in (o, each_clear qs a r)

-- behind questions that all get a yes, the others decide
pub behind_clear : {A : Type 0} (qs rs : List (Question A)) (a : A) → None ≡ first_no qs a → first_no rs a ≡ first_no (qs ++ rs) a
behind_clear [] rs a h = refl
behind_clear (q ∷ qs) rs a h =
    let (o, r) = both_clear q.number (q.fault a) (first_no qs a) (sym h) in
    behind_clear qs rs a (sym r) ∙ ap (λ (p : Option ℕ). no_or q.number p (first_no (qs ++ rs) a)) (sym o)

pub then_clear : (o r : Option Told) → then_no o r ≡ None → (o ≡ None) × (r ≡ None)
then_clear None r h = (refl, h)
then_clear (Some t) r h = cc

pub unless_yes : (b : Bool) → unless b ≡ None → b ≡ true
unless_yes true h = refl
unless_yes false h = cc

pub not_refused : (o : Option Told) (ws : List ℕ) (n h : ℕ) → unless_refused o ws ≡ passed n h → o ≡ None
not_refused None ws n h e = refl
not_refused (Some t) ws n h e = cc
