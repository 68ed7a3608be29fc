use Rattle.std.proofs.Common.{◌≡◌, ◌++◌}
use Rattle.cases.specs.Texts.{copies, shown_by}
use Rattle.cases.proofs.text.append_times.Given as goal

abbrev pub invariant-loop : goal.invariant-loop
invariant-loop l = l.text.items ≡ l.fn.text.items ++ copies l.counter (shown_by l.part)
