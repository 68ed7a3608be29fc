-- ZUWD copies a double.
use Rattle.std.specs.Prelude.{ℕ, List, ℤ}
use Rattle.catalogue.specs.Blocks.{pins_of, cells_of}
use Rattle.catalogue.specs.declared.Block.TheVariants.{Zuwd}
use Rattle.block.specs.Meaning.{Meaning, Given}
use Rattle.blocks.specs.Pins.{double_at, one_output}

unfoldable pub zuwd_gives : List ℤ → List ℤ → ℕ → Given
zuwd_gives inputs cells ms = record { worked = one_output (double_at inputs 0); cells = cells }

abbrev pub zuwd : Meaning
zuwd = record { pins = pins_of Zuwd; count = cells_of Zuwd; gives = zuwd_gives }
