-- Question 5: each item is known, and no more is asked.
use Rattle.std.specs.Prelude.{true, Some}
use Rattle.fitting.specs.declared.known.Known.{Known}
use Rattle.rule.specs.Automata.{Automaton}

abbrev pub knowns : Automaton Known
knowns = record { start = record {}; step = λ s i. Some s; ends = λ _. true }
