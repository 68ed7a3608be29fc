-- What is told of a scan's refusal by a point that is not fitted.
use Rattle.std.specs.Prelude.{ℕ}
use Rattle.plant.specs.declared.fault.Unfitted.{Unfitted}

-- the question that got a no, the item's place, the point asked, the layer of the plant's make
pub record Told : Type 0 where
  pub question : ℕ
  pub place : ℕ
  pub point : ℕ
  pub layer : ℕ

abbrev pub told_of : Unfitted → Told
told_of u = record { question = 14; place = u.place; point = u.fault.point; layer = u.fault.layer }
