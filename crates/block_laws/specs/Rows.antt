-- Rows of scans that work one block, the latest scan first.
use Rattle.std.specs.Prelude.{ℕ, ◌+◌, Bool, true, ◌&&◌, List, [], ◌∷◌, ℤ}
use Rattle.block.specs.Meaning.{Meaning}
use Rattle.blocks.specs.Pins.{value_at, bit_at}

pub record Scan : Type 0 where
  pub inputs : List ℤ
  pub ms : ℕ

-- the cells after a row of scans, from those before it
abbrev pub cells_after : Meaning → List Scan → List ℤ → List ℤ
cells_after m [] cells = cells
cells_after m (s ∷ earlier) cells = (m.gives s.inputs (cells_after m earlier cells) s.ms).cells

-- output k of a scan that follows a row
abbrev pub output : Meaning → ℕ → Scan → List Scan → List ℤ → ℤ
output m k s earlier cells = value_at (m.gives s.inputs (cells_after m earlier cells) s.ms).worked.outputs k

-- the first input: T, or CU of a counter
abbrev pub t_of : Scan → Bool
t_of s = bit_at s.inputs 0

-- T in the last scan of a row; before any scan it is what the first cell keeps
abbrev pub last_t : List Scan → List ℤ → Bool
last_t [] cells = bit_at cells 0
last_t (s ∷ earlier) cells = t_of s

abbrev pub all_on : List Scan → Bool
all_on [] = true
all_on (s ∷ row) = t_of s && all_on row

abbrev pub total_ms : List Scan → ℕ
total_ms [] = 0
total_ms (s ∷ row) = s.ms + total_ms row
