use Rattle.std.proofs.Common.{◌≡◌, map, drop, vec_items}
use Rattle.token.specs.Reads.{seen_of}
use Rattle.reader.specs.Reading.{read_on, unread}
use Rattle.reader.proofs.read.read.Given as goal

abbrev pub invariant-loop-placed : goal.invariant-loop-placed
invariant-loop-placed l =
    read_on l.edition l.end (map seen_of (drop l.placed-index l.tokens)) (record { items = vec_items l.program.items; constants = vec_items l.program.constants; state = l.state })
    ≡ read_on l.edition l.end (map seen_of l.tokens) unread
