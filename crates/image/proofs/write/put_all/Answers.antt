use Rattle.std.proofs.Common.{◌+◌, ◌++◌, length, length-append, take, [], get_or, refl, ap, ◌∙◌, arith}
use Rattle.std.proofs.lemmas.List.{take_all}
use Rattle.std.specs.List.{flat_map}
use Rattle.image.specs.Writes.{laid}
use Rattle.image.proofs.Laid.{laid_none, laid_more}
use Rattle.image.proofs.Words.{flat_more, flat_within}
use Rattle.image.proofs.write.put_all.Goals as goal

pub loop-thing-init : goal.loop-thing-init
loop-thing-init g c = record { next = omega arith; left = laid_none c.args.buffer.now c.args.from [] refl }

pub put-at-requires : goal.put-at-requires
put-at-requires g c =
    let f = g.E.Encoded.words in
    let long = ap length (ap f c.thing-item.is) in
    let next = ap length (flat_more f c.args.things.now c.loop-thing.thing-index c.thing-item.result c.loop-thing-test.true) in
    let within = flat_within f c.args.things.now (c.loop-thing.thing-index + 1) in
    let sum = length-append (flat_map f (take c.loop-thing.thing-index c.args.things.now)) (f (get_or c.args.things.now c.loop-thing.thing-index c.thing-item.result)) in
    omega arith

pub loop-thing-preserved : goal.loop-thing-preserved
loop-thing-preserved g c =
    let f = g.E.Encoded.words in
    let xs = c.args.things.now in
    let i = c.loop-thing.thing-index in
    let words = ap f c.thing-item.is in
    let long = ap length words in
    let more = flat_more f xs i c.thing-item.result c.loop-thing-test.true in
    let next = ap length more in
    let within = flat_within f xs i in
    let sum = length-append (flat_map f (take i xs)) (f (get_or xs i c.thing-item.result)) in
    record {
      next = omega arith;
      left = c.put-at.ensures.left ∙ ap (λ z. laid z c.loop-thing.at (f c.thing-item.result)) c.loop-thing.invariant.left
          ∙ laid_more _ _ _ _ _ _ c.loop-thing.invariant.next (omega arith) (ap (λ z. flat_map f (take i xs) ++ z) words ∙ more);
    }

pub returns : goal.returns
returns g c =
    let all = ap (flat_map g.E.Encoded.words) (take_all c.loop-thing.thing-index c.args.things.now c.loop-thing-test.false) in
    let long = ap length all in
    record { next = omega arith; left = c.loop-thing.invariant.left ∙ ap (laid c.args.buffer.now c.args.from) all }
