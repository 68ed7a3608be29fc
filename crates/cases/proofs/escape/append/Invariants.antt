use Rattle.std.proofs.Common.{◌≡◌, ◌++◌, drop}
use Rattle.cases.specs.Escapes.{unescaped}
use Rattle.cases.specs.declared.escape.Escape.TheVariants.{Nothing}
use Rattle.cases.proofs.escape.append.Given as goal

abbrev pub invariant-loop-b : goal.invariant-loop-b
invariant-loop-b l = l.text.items ++ unescaped l.escape (drop l.b-index l.b-items) ≡ l.initial.text.items ++ unescaped Nothing l.shown
