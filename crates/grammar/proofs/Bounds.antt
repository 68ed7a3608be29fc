-- No list in memory nests its brackets past the limit.
use Rattle.std.proofs.Common.{◌≡◌, ◌+◌, ◌≤◌, Some, arith}
use Rattle.std.proofs.lemmas.Bool.Decides.{nat_tests}
use Rattle.item.specs.declared.item.Item.{Item}
use Rattle.grammar.specs.declared.automaton.Grammar.{Grammar}
use Rattle.grammar.specs.Grammar.{grammar_step, depth_of}

-- an item opens one bracket at most
pub grows : (s t : Grammar) (i : Item) → grammar_step s i ≡ Some t → depth_of t ≤ depth_of s + 1
grows s t i e = grind (arith, nat_tests)
