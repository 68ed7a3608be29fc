-- MOA, the pulse that ends with T: Q is 1 while T is 1, for ZD at most.
use Rattle.std.specs.Prelude.{ℕ, ◌&&◌, List, ℤ, nat_lt}
use Rattle.catalogue.specs.Blocks.{pins_of, cells_of}
use Rattle.catalogue.specs.declared.Block.TheVariants.{Moa}
use Rattle.block.specs.Meaning.{Meaning, Given}
use Rattle.blocks.specs.Pins.{bit_at, bit, one_output}
use Rattle.blocks.specs.Timing.{elapsed, timed_cells, delay}

abbrev pub moa_output : List ℤ → List ℤ → ℕ → ℤ
moa_output inputs cells ms = bit (bit_at inputs 0 && nat_lt (elapsed inputs cells ms) (delay inputs))

unfoldable pub moa_gives : List ℤ → List ℤ → ℕ → Given
moa_gives inputs cells ms = record { worked = one_output (moa_output inputs cells ms); cells = timed_cells inputs cells ms }

abbrev pub moa : Meaning
moa = record { pins = pins_of Moa; count = cells_of Moa; gives = moa_gives }
