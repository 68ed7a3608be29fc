-- I+: 1 in the scan in which T rises. Input and cell: T.
use Rattle.std.specs.Prelude.{ℕ, List, ℤ, slice_set}
use Rattle.catalogue.specs.Blocks.{pins_of, cells_of}
use Rattle.catalogue.specs.declared.Block.TheVariants.{RisingEdge}
use Rattle.block.specs.Meaning.{Meaning, Given}
use Rattle.blocks.specs.Pins.{bit_at, rises_at, bit, one_output}

abbrev pub edge_output : List ℤ → List ℤ → ℤ
edge_output inputs cells = bit (rises_at inputs cells 0)

abbrev pub edge_cells : List ℤ → List ℤ → List ℤ
edge_cells inputs cells = slice_set cells 0 (bit (bit_at inputs 0))

unfoldable pub edge_gives : List ℤ → List ℤ → ℕ → Given
edge_gives inputs cells ms = record { worked = one_output (edge_output inputs cells); cells = edge_cells inputs cells }

abbrev pub rising_edge : Meaning
rising_edge = record { pins = pins_of RisingEdge; count = cells_of RisingEdge; gives = edge_gives }
