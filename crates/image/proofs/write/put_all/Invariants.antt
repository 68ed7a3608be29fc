use Rattle.std.proofs.Common.{◌≡◌, ◌+◌, length, take}
use Rattle.std.specs.List.{flat_map}
use Rattle.image.specs.Writes.{laid}
use Rattle.image.proofs.write.put_all.Given as goal

abbrev pub invariant-loop-thing : goal.invariant-loop-thing
invariant-loop-thing g l =
    let done = flat_map g.E.Encoded.words (take l.thing-index l.things) in
    record { next : l.at ≡ l.from + length done; left : l.buffer ≡ laid l.initial.buffer l.from done }
