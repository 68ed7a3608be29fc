-- The time that T has been 1, as the delays ESV and MOA count it. Inputs: T, ZD. Cells: T, elapsed ms.
use Rattle.std.specs.Prelude.{ℕ, ◌+◌, min, cond, ◌&&◌, List, ℤ, pos, slice_set}
use Rattle.number.specs.Limits.{top_of}
use Rattle.number.specs.Operations.{natural, rounded_delay}
use Rattle.number.specs.declared.limit.Width.TheVariants.{Double}
use Rattle.blocks.specs.Pins.{value_at, bit_at, bit}

-- T staying 1 adds this scan's time; T rising, or at 0, sets the time to 0
abbrev pub elapsed : List ℤ → List ℤ → ℕ → ℕ
elapsed inputs cells ms =
    cond (bit_at inputs 0 && bit_at cells 0) (min (natural (value_at cells 1) + ms) (top_of Double)) 0

abbrev pub timed_cells : List ℤ → List ℤ → ℕ → List ℤ
timed_cells inputs cells ms = slice_set (slice_set cells 0 (bit (bit_at inputs 0))) 1 (pos (elapsed inputs cells ms))

-- a forbidden ZD is below 0 and so counts as 0
abbrev pub delay : List ℤ → ℕ
delay inputs = rounded_delay (value_at inputs 1)
