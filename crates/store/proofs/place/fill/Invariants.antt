use Rattle.std.proofs.Common.{◌≡◌}
use Rattle.store.specs.Places.{filled}
use Rattle.store.proofs.place.fill.Given as goal

abbrev pub invariant-loop-k : goal.invariant-loop-k
invariant-loop-k g l = l.xs ≡ filled l.initial.xs l.first l.k l.x
