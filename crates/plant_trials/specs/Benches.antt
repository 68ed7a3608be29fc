-- The test bench: terminal p is point p, and the points of the first eight puts are kept.
use Rattle.std.specs.Prelude.{ℕ, cond, ◌&&◌, List, [], ◌∷◌, ◌++◌, length, nat_lt, slice_index_or}
use Rattle.std.proofs.lemmas.Bool.{le-ltb, cond-false, and_left}
use Rattle.plant.specs.Points.{Meaning, Inside, Deed, absent, wired, took, gave}
use Rattle.plant_trials.specs.declared.bench.Terminal.{Terminal}

abbrev none : Terminal
none = record { input = 0; output = 0 }

abbrev pub on_bench : List Terminal → Meaning
on_bench ts = λ p. cond (nat_lt p 192 && nat_lt p (length ts)) (wired (slice_index_or ts p none).input (slice_index_or ts p none).output) absent

pub bench_inside : (ts : List Terminal) → Inside (on_bench ts)
bench_inside ts k past = cond-false _ _ _ (and_left _ _ (le-ltb k 192 past))

-- a put is kept while fewer than eight are
abbrev pub logged : List ℕ → Deed → List ℕ
logged log (took p w) = log
logged log (gave p w) = cond (nat_lt (length log) 8) (log ++ p ∷ []) log
