-- What a block kind is to the run: its pins, its cell count, and what follows from inputs, cells and time.
use Rattle.std.specs.Prelude.{ℕ, Bool, true, ◌&&◌, List, [], ◌∷◌, drop, ℤ, pos, int_le, slice_index_or}
use Rattle.number.specs.Limits.{lawful}
use Rattle.number.specs.declared.limit.Width.TheVariants.{Word as Words, Double as Doubles}
use Rattle.operand.specs.declared.kind.Size.{Size}
use Rattle.operand.specs.declared.kind.Size.TheVariants.{Bit, Word, Double}
use Rattle.catalogue.specs.declared.Pin.{Pin}
use Rattle.catalogue.specs.declared.Pin.TheVariants.{Input, Output, Mark}
use Rattle.block.specs.declared.worked.Worked.{Worked}

-- what a working of the block gives: what it tells, and its cells after
pub record Given : Type 0 where
  pub worked : Worked
  pub cells : List ℤ

pub record Meaning : Type 0 where
  pub pins : List Pin
  pub count : ℕ
  -- from the inputs in pin order, the cells before, and the ms of this scan
  pub gives : List ℤ → List ℤ → ℕ → Given

-- a value that an operand of that size may hold
abbrev pub may_hold : Size → ℤ → Bool
may_hold Bit value = int_le (pos 0) value && int_le value (pos 1)
may_hold Word value = lawful Words value
may_hold Double value = lawful Doubles value

-- each output is a value of its pin
abbrev pub outputs_fit : List Pin → List ℤ → Bool
outputs_fit [] outputs = true
outputs_fit (Input size ∷ pins) outputs = outputs_fit pins outputs
outputs_fit (Output size ∷ pins) outputs = may_hold size (slice_index_or outputs 0 (pos 0)) && outputs_fit pins (drop 1 outputs)
outputs_fit (Mark ∷ pins) outputs = outputs_fit pins outputs
