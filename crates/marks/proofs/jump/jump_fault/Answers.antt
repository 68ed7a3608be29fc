use Rattle.std.proofs.Common.{◌≡◌, ◌/◌, true, false, length, rules, tests}
use Rattle.std.proofs.lemmas.Iterator.{first_from_Range, serves_from_Range}
use Rattle.marks.specs.Jumps.{astray}
use Rattle.marks.proofs.Firsts.{is_first}
use Rattle.marks.proofs.jump.jump_fault.Goals as goal

pub find-requires : goal.find-requires
find-requires c = record { can = tt; finite = tt; callable = serves_from_Range (λ x q k. search (rules, tests)) (λ x low high. search rules) }

pub returns : goal.returns
returns c =
    let test = astray c.args.items.edition c.args.items.words.now in
    is_first test (length c.args.items.words.now / 2) 0 c.len.result c.find.result c.len.ensures
    (first_from_Range _ _ _ _ (λ i. test i ≡ true) (λ i. test i ≡ false) c.find.ensures.ran
    (λ x q k. search (rules, tests))
    (λ x q k. (search rules, search (rules, tests))))
