use Rattle.std.proofs.Common.{◌≡◌}
use Rattle.spelling.specs.Spellings.{spelt_below}
use Rattle.spelling.proofs.find_spelt.Given as goal

abbrev pub invariant-loop-number : goal.invariant-loop-number
invariant-loop-number g l = spelt_below (g.T.Spelled.entry l.edition) g.T.Spelled.spelt l.text l.number ≡ spelt_below (g.T.Spelled.entry l.edition) g.T.Spelled.spelt l.text g.T.Spelled.COUNT
