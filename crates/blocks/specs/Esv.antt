-- ESV, the delay on: Q follows T once T has been 1 for ZD.
use Rattle.std.specs.Prelude.{ℕ, ◌&&◌, List, ℤ, nat_le}
use Rattle.catalogue.specs.Blocks.{pins_of, cells_of}
use Rattle.catalogue.specs.declared.Block.TheVariants.{Esv}
use Rattle.block.specs.Meaning.{Meaning, Given}
use Rattle.blocks.specs.Pins.{bit_at, bit, one_output}
use Rattle.blocks.specs.Timing.{elapsed, timed_cells, delay}

abbrev pub esv_output : List ℤ → List ℤ → ℕ → ℤ
esv_output inputs cells ms = bit (bit_at inputs 0 && nat_le (delay inputs) (elapsed inputs cells ms))

unfoldable pub esv_gives : List ℤ → List ℤ → ℕ → Given
esv_gives inputs cells ms = record { worked = one_output (esv_output inputs cells ms); cells = timed_cells inputs cells ms }

abbrev pub esv : Meaning
esv = record { pins = pins_of Esv; count = cells_of Esv; gives = esv_gives }
