use Rattle.std.proofs.Common.{◌≡◌, ◌++◌, map, vec_items}
use Rattle.token.specs.Cuts.{parts_of}
use Rattle.token.specs.Runs.{parts_left}
use Rattle.token.specs.Tokens.{seen, tokens_of, first_unknown}
use Rattle.token.specs.Reads.{seen_of, part_of}
use Rattle.token.proofs.token.tokens.Given as goal

abbrev pub invariant-loop-part : goal.invariant-loop-part
invariant-loop-part l =
    (goal.iterator-loop-part).can_next l.part-iterator
    × (goal.iterator-loop-part).is_finite l.part-iterator
    × (map seen_of (vec_items l.tokens) ++ map (seen l.edition) (parts_left l.part-iterator) ≡ tokens_of l.edition l.text)
    × (map part_of (vec_items l.tokens) ++ parts_left l.part-iterator ≡ parts_of 0 l.text)
    × (first_unknown (map (seen l.edition) (parts_left l.part-iterator)) ≡ first_unknown (tokens_of l.edition l.text))
