-- Question 14: is every point that an item names fitted?
use Rattle.std.specs.Prelude.{◌≡◌, ℕ, zero, suc, ◌<◌, List, Some, None, Ok, Err, Option, Result}
use Rattle.operand.specs.declared.edition.Edition.{Edition}
use Rattle.plant.specs.declared.fault.Unfitted.{Unfitted}
use Rattle.plant.specs.Points.{Point, absent, wired, Meaning, Fitted, fault_at}
use Rattle.plant.specs.Faults.{told_of}
use Rattle.named.specs.declared.point.NamedPoint.{NamedPoint}
use Rattle.named.specs.Naming.{point_at}

-- the point, if one is named, is fitted
abbrev pub Fits : Meaning → Option NamedPoint → Type 0
Fits m None = Unit {0}
Fits m (Some n) = Fitted (m n.point)

-- all points that items before place n name are fitted
abbrev pub AllFit : Meaning → Edition → List ℕ → ℕ → Type 0
AllFit m e ws n = (q : ℕ) → q < n → Fits m (point_at e ws q)

-- the refusal at an item: its point is not fitted, and the plant's fault at that point is told
pub record UnfittedAt (m : Meaning) (layer : ℕ) (e : Edition) (ws : List ℕ) (place : ℕ) (u : Unfitted) : Type 0 where
  pub names : NamedPoint
  pub here : point_at e ws place ≡ Some names
  pub unfitted : m names.point ≡ absent
  pub told : told_of u ≡ record { question = 14; place = place; point = names.point; layer = layer }

-- the refusal at the first of n items whose point is not fitted
pub record FirstUnfitted (m : Meaning) (layer : ℕ) (e : Edition) (ws : List ℕ) (n : ℕ) (u : Unfitted) : Type 0 where
  pub within : u.place < n
  pub before : AllFit m e ws u.place
  pub at : UnfittedAt m layer e ws u.place u

-- the answer where nothing before the place was refused
abbrev pub fit_at : ℕ → ℕ → ℕ → Point → Result (Unit {0}) Unfitted
fit_at layer place p absent = Err (record { place = place; fault = fault_at layer p })
fit_at layer place p (wired i o) = Ok tt

abbrev pub fit_named : Meaning → ℕ → ℕ → Option NamedPoint → Result (Unit {0}) Unfitted
fit_named m layer place None = Ok tt
fit_named m layer place (Some n) = fit_at layer place n.point (m n.point)

-- an earlier refusal stays
abbrev pub or_else : Result (Unit {0}) Unfitted → Result (Unit {0}) Unfitted → Result (Unit {0}) Unfitted
or_else (Err u) next = Err u
or_else (Ok t) next = next

-- the answer over the first n items
unfoldable pub fitting : Meaning → ℕ → Edition → List ℕ → ℕ → Result (Unit {0}) Unfitted
fitting m layer e ws zero = Ok tt
fitting m layer e ws (suc n) = or_else (fitting m layer e ws n) (fit_named m layer n (point_at e ws n))
