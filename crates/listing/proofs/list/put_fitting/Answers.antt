use Rattle.std.proofs.Common.{arith}
use Rattle.checker.specs.Verdict.{seen}
use Rattle.listing.specs.Lines.{listing_of}
use Rattle.listing.proofs.Dues.{fits}
use Rattle.listing.proofs.list.put_fitting.Goals as goal

pub returns : goal.returns
returns c =
    let f = fits (listing_of (seen c.args.image)) c.args.out.now _ _ c.write_listing.ensures (omega (arith, c.write_listing-needed.ensures.counts)) in
    record { answer = f.answer; left = f.left }
