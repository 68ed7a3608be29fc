-- SPBM jumps when its condition is 1. Where to is the run's matter.
use Rattle.std.specs.Prelude.{ℕ, List, ℤ}
use Rattle.catalogue.specs.Blocks.{pins_of, cells_of}
use Rattle.catalogue.specs.declared.Block.TheVariants.{Spbm}
use Rattle.block.specs.Meaning.{Meaning, Given}
use Rattle.blocks.specs.Pins.{bit_at, jump}

unfoldable pub spbm_gives : List ℤ → List ℤ → ℕ → Given
spbm_gives inputs cells ms = record { worked = jump (bit_at inputs 0); cells = cells }

abbrev pub spbm : Meaning
spbm = record { pins = pins_of Spbm; count = cells_of Spbm; gives = spbm_gives }
