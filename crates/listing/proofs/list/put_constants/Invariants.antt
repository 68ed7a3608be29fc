use Rattle.lay.specs.Lays.{Puts}
use Rattle.listing.specs.Lines.{constant_lines}
use Rattle.listing.proofs.list.put_constants.Given as goal

abbrev pub invariant-loop-constant : goal.invariant-loop-constant
invariant-loop-constant l = Puts l.initial.pen (constant_lines l.yielded) l.pen
