use Rattle.std.proofs.Common.{◌≡◌, true, false, get_or, length, refl, rules, tests}
use Rattle.std.proofs.lemmas.Iterator.{first_from_Range, serves_from_Range}
use Rattle.character.specs.Classes.{is_separator}
use Rattle.token.proofs.Steps.{begins}
use Rattle.token.proofs.cut.part_at.Goals as goal

pub find-requires : goal.find-requires
find-requires c = record { can = tt; finite = tt; callable = serves_from_Range (λ x q k. search (rules, tests)) (λ x low high. search rules) }

pub returns : goal.returns
returns c =
    let bs = c.args.text.now in
    begins bs c.args.from (length bs) c.find.result refl
    (first_from_Range _ _ _ _ (λ i. is_separator (get_or bs i 0) ≡ false) (λ i. is_separator (get_or bs i 0) ≡ true) c.find.ensures.ran (λ x q k. search (rules, tests)) (λ x q k. (search rules, search (rules, tests))))
