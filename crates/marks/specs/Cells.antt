-- The history cells of the calls in a list.
use Rattle.std.specs.Prelude.{ℕ, zero, suc, ◌+◌, ◌/◌, List, length, Some, None, Option}
use Rattle.operand.specs.declared.edition.Edition.{Edition}
use Rattle.item.specs.declared.item.Item.{Item}
use Rattle.item.specs.Items.{item_cells}
use Rattle.decode.specs.Words.{item_at}

-- an unknown item has no cells
abbrev pub cells_asked : Option Item → ℕ
cells_asked None = 0
cells_asked (Some i) = item_cells i

-- the cells of all calls before place p, skipped ones too: where the cells of a call at p begin
unfoldable pub cells_before : Edition → List ℕ → ℕ → ℕ
cells_before e ws zero = 0
cells_before e ws (suc p) = cells_before e ws p + cells_asked (item_at e ws p)

-- the cells of all calls
abbrev pub all_cells : Edition → List ℕ → ℕ
all_cells e ws = cells_before e ws (length ws / 2)
