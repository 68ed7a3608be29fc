use Rattle.std.proofs.Common.{◌≡◌}
use Rattle.store.specs.Places.{spread}
use Rattle.store.proofs.place.spread_word.Given as goal

abbrev pub invariant-loop-k : goal.invariant-loop-k
invariant-loop-k l = l.xs ≡ spread l.initial.xs l.first l.word l.k
