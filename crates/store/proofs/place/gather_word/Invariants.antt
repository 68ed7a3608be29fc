use Rattle.std.proofs.Common.{◌≡◌, ◌+◌, ◌-◌}
use Rattle.store.specs.Places.{gathered}
use Rattle.store.proofs.place.gather_word.Given as goal

abbrev pub invariant-loop-k : goal.invariant-loop-k
invariant-loop-k l = l.word ≡ gathered l.xs (l.first + l.k) (16 - l.k)
