-- A block knows no cell but those of its window.
use Rattle.std.specs.Prelude.{◌≡◌, ℕ, ◌+◌, ◌<◌, List, length, ℤ, pos, slice_index_or}
use Rattle.block.specs.Meaning.{Meaning}
use Rattle.block.specs.Windows.{worked_at, history_after}

-- two histories of one length with the same cells in a window
pub record Agree (first count : ℕ) (a b : List ℤ) : Type 0 where
  pub long : length a ≡ length b
  pub cells : (k : ℕ) → k < count → slice_index_or a (first + k) (pos 0) ≡ slice_index_or b (first + k) (pos 0)

-- a block worked on either tells the same, and they agree again
pub record Agreed (m : Meaning) (inputs a b : List ℤ) (first ms : ℕ) : Type 0 where
  pub told : worked_at m inputs a first ms ≡ worked_at m inputs b first ms
  pub after : Agree first m.count (history_after m inputs a first ms) (history_after m inputs b first ms)

abbrev pub WindowsAgree : Type 0
WindowsAgree = (m : Meaning) (inputs a b : List ℤ) (first ms : ℕ) → Agree first m.count a b → Agreed m inputs a b first ms
