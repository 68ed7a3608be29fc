-- A block's cells are a window of the history: `count` cells from `first` on.
use Rattle.std.specs.Prelude.{◌≡◌, ℕ, ◌+◌, ◌<◌, ◌≤◌, cond, ◌⊎◌, List, [], ◌∷◌, ℤ, pos, nat_lt, slice_index_or, slice_set}
use Rattle.block.specs.Meaning.{Meaning, Given}
use Rattle.block.specs.declared.worked.Worked.{Worked}

-- a cell of the window; 0 behind the window and behind the end of the history
abbrev pub cell_at : List ℤ → ℕ → ℕ → ℕ → ℤ
cell_at history first count k = cond (nat_lt k count) (slice_index_or history (first + k) (pos 0)) (pos 0)

abbrev pub window_of : List ℤ → ℕ → ℕ → List ℤ
window_of history first count = cell_at history first count 0 ∷ cell_at history first count 1 ∷ cell_at history first count 2 ∷ []

-- the history with one cell of the window put back; behind the window and behind the end nothing is put
abbrev pub with_cell : List ℤ → ℕ → ℕ → ℕ → ℤ → List ℤ
with_cell history first count k cell = cond (nat_lt k count) (slice_set history (first + k) cell) history

abbrev pub with_window : List ℤ → ℕ → ℕ → List ℤ → List ℤ
with_window history first count cells =
    let one = with_cell history first count 0 (slice_index_or cells 0 (pos 0)) in
    let two = with_cell one first count 1 (slice_index_or cells 1 (pos 0)) in
    with_cell two first count 2 (slice_index_or cells 2 (pos 0))

-- what a block of that meaning gives with its window at `first`
abbrev pub given_at : Meaning → List ℤ → List ℤ → ℕ → ℕ → Given
given_at m inputs history first ms = m.gives inputs (window_of history first m.count) ms

unfoldable pub worked_at : Meaning → List ℤ → List ℤ → ℕ → ℕ → Worked
worked_at m inputs history first ms = (given_at m inputs history first ms).worked

unfoldable pub history_after : Meaning → List ℤ → List ℤ → ℕ → ℕ → List ℤ
history_after m inputs history first ms = with_window history first m.count (given_at m inputs history first ms).cells

abbrev pub Outside : ℕ → ℕ → ℕ → Type 0
Outside first count c = (c < first) ⊎ (first + count ≤ c)

-- every cell outside the window is as before
abbrev pub SameOutside : ℕ → ℕ → List ℤ → List ℤ → Type 0
SameOutside first count before after = (c : ℕ) → Outside first count c → slice_index_or after c (pos 0) ≡ slice_index_or before c (pos 0)
