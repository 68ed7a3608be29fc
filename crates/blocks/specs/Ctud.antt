-- CTUD, the counter up and down. Inputs: CU, CD, RESET, LOAD, PV. Cells: CU, CD, CV. Outputs: QU, QD, CV.
use Rattle.std.specs.Prelude.{ℕ, Bool, cond, ◌&&◌, List, ℤ, pos, ◌+ℤ◌, ◌-ℤ◌, neg_ℤ, int_le, int_lt, slice_set}
use Rattle.number.specs.Limits.{top_of}
use Rattle.number.specs.declared.limit.Width.TheVariants.{Word}
use Rattle.catalogue.specs.Blocks.{pins_of, cells_of}
use Rattle.catalogue.specs.declared.Block.TheVariants.{Ctud}
use Rattle.block.specs.declared.worked.Worked.{Worked}
use Rattle.block.specs.Meaning.{Meaning, Given}
use Rattle.blocks.specs.Pins.{bit_at, rises_at, word_at, bit, three_outputs}

-- a rise counts only inside the lawful words
abbrev pub counted_up : Bool → ℤ → ℤ
counted_up rise cv = cond (rise && int_lt cv (pos (top_of Word))) (cv +ℤ pos 1) cv

abbrev pub counted_down : Bool → ℤ → ℤ
counted_down rise cv = cond (rise && int_lt (neg_ℤ (pos (top_of Word))) cv) (cv -ℤ pos 1) cv

-- up before down
abbrev pub counted : Bool → Bool → ℤ → ℤ
counted up down cv = counted_down down (counted_up up cv)

abbrev pub counted_on : List ℤ → List ℤ → ℤ
counted_on inputs cells = counted (rises_at inputs cells 0) (rises_at inputs cells 1) (word_at cells 2)

-- RESET goes before LOAD, and LOAD before counting
abbrev pub counter_value : List ℤ → List ℤ → ℤ
counter_value inputs cells = cond (bit_at inputs 2) (pos 0) (cond (bit_at inputs 3) (word_at inputs 4) (counted_on inputs cells))

abbrev pub counter_cells : List ℤ → List ℤ → List ℤ
counter_cells inputs cells =
    slice_set (slice_set (slice_set cells 0 (bit (bit_at inputs 0))) 1 (bit (bit_at inputs 1))) 2 (counter_value inputs cells)

-- QU is CV ≥ PV, QD is CV ≤ 0
abbrev pub counter_told : List ℤ → List ℤ → Worked
counter_told inputs cells =
    let cv = counter_value inputs cells in
    three_outputs (bit (int_le (word_at inputs 4) cv)) (bit (int_le cv (pos 0))) cv

unfoldable pub ctud_gives : List ℤ → List ℤ → ℕ → Given
ctud_gives inputs cells ms = record { worked = counter_told inputs cells; cells = counter_cells inputs cells }

abbrev pub ctud : Meaning
ctud = record { pins = pins_of Ctud; count = cells_of Ctud; gives = ctud_gives }
