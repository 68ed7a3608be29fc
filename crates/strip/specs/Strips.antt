-- The terminal strip: the input of point p at word 2p, its output at 2p + 1, fitted when that word exists.
use Rattle.std.specs.Prelude.{ℕ, ◌+◌, ◌*◌, ◌%◌, ◌<◌, cond, ◌&&◌, List, length, ◌==◌, nat_lt, slice_index}
use Rattle.std.proofs.lemmas.Bool.{le-ltb, cond-false, and_left}
use Rattle.plant.specs.Points.{Meaning, Inside, absent, wired}

-- the words have a terminal for point p
abbrev pub Has : List ℕ → ℕ → Type 0
Has ws p = (p < 192) × (2 * p + 1 < length ws)

abbrev pub on_strip : List ℕ → Meaning
on_strip ws = λ p. cond (nat_lt p 192 && nat_lt (2 * p + 1) (length ws)) (wired (slice_index ws (2 * p)) (slice_index ws (2 * p + 1))) absent

-- the words that are no point's output, each at its place
abbrev pub besides : List ℕ → ℕ → ℕ
besides ws = λ k. cond (k % 2 == 1 && nat_lt k 384) 0 (slice_index ws k)

pub strip_inside : (ws : List ℕ) → Inside (on_strip ws)
strip_inside ws k past = cond-false _ _ _ (and_left _ _ (le-ltb k 192 past))
