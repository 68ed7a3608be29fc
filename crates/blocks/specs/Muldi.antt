-- MULDI: Z1 × Z2 : Z3, limited once.
use Rattle.std.specs.Prelude.{ℕ, List, ℤ}
use Rattle.number.specs.Operations.{scaled}
use Rattle.catalogue.specs.Blocks.{pins_of, cells_of}
use Rattle.catalogue.specs.declared.Block.TheVariants.{Muldi}
use Rattle.block.specs.Meaning.{Meaning, Given}
use Rattle.blocks.specs.Pins.{word_at, one_output}

abbrev pub muldi_output : List ℤ → ℤ
muldi_output inputs = scaled (word_at inputs 0) (word_at inputs 1) (word_at inputs 2)

unfoldable pub muldi_gives : List ℤ → List ℤ → ℕ → Given
muldi_gives inputs cells ms = record { worked = one_output (muldi_output inputs); cells = cells }

abbrev pub muldi : Meaning
muldi = record { pins = pins_of Muldi; count = cells_of Muldi; gives = muldi_gives }
