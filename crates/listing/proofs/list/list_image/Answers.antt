use Rattle.std.proofs.Common.{length, Err, sym, ap, ◌∙◌}
use Rattle.std.proofs.lemmas.Result.{err_from_is_err_and}
use Rattle.checker.specs.Verdict.{seen}
use Rattle.listing.specs.Lines.{listing_of}
use Rattle.listing.specs.Listed.{answered, left_by, text_of}
use Rattle.listing.proofs.Dues.{refused_due, fitted_due}
use Rattle.listing.proofs.list.list_image.Goals as goal

pub returns-in_err-image : goal.returns-in_err-image
returns-in_err-image c =
    let p = err_from_is_err_and c.from_residual.result c.from_residual.ensures.1 in
    record {
      answer = ap answered p.1 ∙ (ap (λ q. answered (Err q)) p.2 ∙ refused_due c.args.words.now (length c.args.out.now) _ c.in_err-image.ensures);
      left = sym (ap (λ r. left_by r (text_of c.args.words.now) c.args.out.now) p.1);
    }

pub returns : goal.returns
returns c =
    let o = c.in_ok-image.ensures in
    record {
      answer = c.put_fitting.ensures.answer ∙ fitted_due c.args.words.now (listing_of (seen c.in_ok-image.image)) (length c.args.out.now) o.0 o.1;
      left = c.put_fitting.ensures.left ∙ ap (λ text. left_by c.put_fitting.result text c.args.out.now) o.1;
    }
