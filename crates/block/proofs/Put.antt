-- The cells of a window put back one by one.
use Rattle.std.proofs.Common.{ℕ, zero, suc, List, ℤ, pos, get_or}
use Rattle.block.specs.Windows.{with_cell}

-- the history with the first n cells of the window put back
abbrev pub put_below : List ℤ → ℕ → ℕ → List ℤ → ℕ → List ℤ
put_below history first count cells zero = history
put_below history first count cells (suc n) = with_cell (put_below history first count cells n) first count n (get_or cells n (pos 0))
