use Rattle.std.proofs.Common.{◌≡◌, length, None, Err, ap, ◌∙◌, arith}
use Rattle.std.proofs.lemmas.Result.{err_from_is_err_and}
use Rattle.view.specs.Trailers.{items_in}
use Rattle.checker.specs.Verdict.{answered, passed}
use Rattle.checker.proofs.Deciding.{not_opened, opened_to, item_length, few_items}
use Rattle.checker.proofs.check.decide.Goals as goal

pub returns-in_err-image : goal.returns-in_err-image
returns-in_err-image c =
    let p = err_from_is_err_and c.from_residual.result c.from_residual.ensures.1 in
    ap answered p.1 ∙ (ap (λ q. answered (Err q)) p.2 ∙ not_opened c.args.words.now _ c.in_err-image.ensures.opens c.in_err-image.ensures.in_turn)

pub returns-in_err-judge : goal.returns-in_err-judge
returns-in_err-judge c =
    let p = err_from_is_err_and c.from_residual-in_err-judge.result c.from_residual-in_err-judge.ensures.1 in
    ap answered p.1 ∙ (ap (λ q. answered (Err q)) p.2 ∙ opened_to c.args.words.now c.in_ok-image.image c.in_ok-image.ensures.opens _ c.in_err-judge.ensures)

pub overflow_cast-result : goal.overflow_cast-result
overflow_cast-result c =
    let v = c.in_ok-image.ensures.opens in
    let n = ap length (c.items.ensures.words ∙ v.3) ∙ item_length c.args.words.now v.2 in
    let f = few_items c.args.words.now v.2 in
    omega arith

pub returns : goal.returns
returns c =
    let v = c.in_ok-image.ensures.opens in
    let n = ap length (c.items.ensures.words ∙ v.3) ∙ item_length c.args.words.now v.2 in
    let half : c.len.result ≡ items_in c.args.words.now = omega arith in
    (λ i. passed (half i) (v.5 i)) ∙ opened_to c.args.words.now c.in_ok-image.image v None c.in_ok-judge.ensures
