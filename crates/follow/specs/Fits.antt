-- A token that fits, or the place of one that does not.
use Rattle.std.specs.Prelude.{ℕ, Some, None, Ok, Err, Option, Result}
use Rattle.follow.specs.declared.number.Misfit.{Misfit}

abbrev pub fitting : {X : Type 0} → ℕ → Option X → Result X Misfit
fitting place None = Err (record { place = place })
fitting place (Some x) = Ok x
