use Rattle.lay.specs.Lays.{Puts}
use Rattle.listing.specs.Lines.{item_lines}
use Rattle.listing.proofs.list.put_items.Given as goal

abbrev pub invariant-loop-item : goal.invariant-loop-item
invariant-loop-item l = Puts l.initial.pen (item_lines l.yielded) l.pen
