-- Two questions at once: an item is at fault where either refuses it.
use Rattle.std.specs.Prelude.{◌&&◌, Some, None, Option}
use Rattle.rule.specs.declared.both.Both.{Both}
use Rattle.rule.specs.Automata.{Automaton}

abbrev pub paired : {S T : Type 0} → Option S → Option T → Option (Both S T)
paired None t = None
paired (Some s) None = None
paired (Some s) (Some t) = Some (record { one = s; two = t })

abbrev pub both : {S T : Type 0} → Automaton S → Automaton T → Automaton (Both S T)
both a b = record {
  start = record { one = a.start; two = b.start };
  step = λ s i. paired (a.step s.one i) (b.step s.two i);
  ends = λ s. a.ends s.one && b.ends s.two;
}
