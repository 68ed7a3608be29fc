use Rattle.std.proofs.Common.{◌≡◌, [], ◌∷◌, sym, ap, ◌∙◌, arith}
use Rattle.image.specs.Images.{image_length}
use Rattle.image.specs.Writes.{laid}
use Rattle.image.specs.declared.write.Written.{Written}
use Rattle.image.proofs.Words.{flat_items, flat_constants, words_length}
use Rattle.image.proofs.Whole.{counted_trailer, whole_image}
use Rattle.image.proofs.write.List.put.Goals as goal

pub put_all-next-requires : goal.put_all-next-requires
put_all-next-requires c =
    let items = flat_items c.args.self.items.now in
    omega arith

pub put_all-next-requires-2 : goal.put_all-next-requires-2
put_all-next-requires-2 c =
    let items = flat_items c.args.self.items.now in
    let constants = flat_constants c.args.self.constants.now in
    omega arith

pub overflow_cast-counts : goal.overflow_cast-counts
overflow_cast-counts c =
    let few = c.args.self.items_fit in
    let fewer = c.args.self.constants_fit in
    let long = ap (λ (k : Written). k.length) c.counts-counts.ensures ∙ sym (words_length c.args.self.edition c.args.self.items.now c.args.self.constants.now) in
    omega arith

pub put-requires : goal.put-requires
put-requires c =
    let items = flat_items c.args.self.items.now in
    let constants = flat_constants c.args.self.constants.now in
    omega arith

pub returns-clause-left : goal.returns-clause-left
returns-clause-left c =
    let e = c.args.self.edition in
    let is = c.args.self.items.now in
    let cs = c.args.self.constants.now in
    let k = c.counts-counts.result in
    let counted = c.counts-counts.ensures in
    let long : k.length ≡ image_length is cs = ap (λ (w : Written). w.length) counted ∙ sym (words_length e is cs) in
    let trailer = counted_trailer e is cs k long (ap (λ (w : Written). w.items) counted) (ap (λ (w : Written). w.constants) counted) (ap (λ (w : Written). w.cells) counted) in
    let edition = ap (λ n. k.length ∷ k.items ∷ k.constants ∷ k.cells ∷ n ∷ 44081 ∷ []) c.number.ensures in
    whole_image e is cs k _ _ _ _ _ _ trailer c.requires
    c.put_all-next.ensures.next c.put_all-next.ensures.left
    c.put_all-next-2.ensures.next c.put_all-next-2.ensures.left
    (c.put.ensures.left ∙ ap (laid c.put_all-next-2.new.buffer c.put_all-next-2.result) edition)
