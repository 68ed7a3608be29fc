use Rattle.std.proofs.Common.{◌≡◌, ◌/◌, true, false, ltb, length, sym, ap, ◌∙◌, arith}
use Rattle.std.proofs.lemmas.Bool.{cond-true, cond-false}
use Rattle.std.proofs.lemmas.Bool.Decides.{nat_tests}
use Rattle.lay.proofs.Joins.{puts_as}
use Rattle.explain.specs.Shown.{item_or_unknown}
use Rattle.explain.proofs.shown.put_shown.Goals as goal

pub returns-then-place-len : goal.returns-then-place-len
returns-then-place-len c =
    let past : ltb c.args.place (length c.args.items.now / 2) ≡ false = grind (arith, nat_tests, c.len.ensures, c.if-place-len.true) in
    puts_as (sym (cond-false _ _ _ past)) c.put_text.ensures

pub returns-in-None : goal.returns-in-None
returns-in-None c =
    let there : ltb c.args.place (length c.args.items.now / 2) ≡ true = grind (arith, nat_tests, c.len.ensures, c.if-place-len.false) in
    puts_as (sym (cond-true _ _ _ there ∙ ap item_or_unknown (sym (c.in-None.ensures ∙ cond-true _ _ _ there)))) c.put_text-in-None.ensures
