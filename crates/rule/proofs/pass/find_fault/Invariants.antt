use Rattle.std.proofs.Common.{◌≡◌, ◌+◌, length}
use Rattle.std.specs.Iterator.Adapters.{enumerate_source, enumerate_count}
use Rattle.decode.specs.Words.{items_of}
use Rattle.rule.specs.Automata.{first_fault, fault_from}
use Rattle.rule.proofs.pass.find_fault.Given as goal

-- the items that are left, and the place of the first of them
abbrev pub invariant-loop-place : goal.invariant-loop-place
invariant-loop-place g l =
    let rest = enumerate_source l.place-iterator in
    let left = items_of rest.edition rest.words.now in
    let all = items_of l.items.edition l.items.words.now in
    record {
      same : fault_from g.R.Rule.automaton left l.state (enumerate_count l.place-iterator) ≡ first_fault g.R.Rule.automaton all;
      place : enumerate_count l.place-iterator + length left ≡ length all;
    }
