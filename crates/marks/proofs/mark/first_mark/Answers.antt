use Rattle.std.proofs.Common.{◌≡◌, ◌/◌, true, false, length, rules, tests}
use Rattle.std.proofs.lemmas.Iterator.{first_from_Range, serves_from_Range}
use Rattle.marks.specs.Marks.{mark_at}
use Rattle.marks.proofs.Firsts.{is_first}
use Rattle.marks.proofs.mark.first_mark.Goals as goal

pub find-requires : goal.find-requires
find-requires c = record { can = tt; finite = tt; callable = serves_from_Range (λ x q k. search (rules, tests)) (λ x low high. search rules) }

pub returns : goal.returns
returns c =
    let e = c.args.items.edition in
    let ws = c.args.items.words.now in
    let test = mark_at e ws c.args.mark in
    is_first test (length ws / 2) c.args.from c.len.result c.find.result c.len.ensures
    (first_from_Range _ _ _ _ (λ i. test i ≡ true) (λ i. test i ≡ false) c.find.ensures.ran (λ x q k. search (rules, tests)) (λ x q k. (search rules, search (rules, tests))))
