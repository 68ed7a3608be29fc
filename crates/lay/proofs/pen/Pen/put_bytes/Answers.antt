use Rattle.std.proofs.Common.{refl, arith}
use Rattle.lay.proofs.Joins.{part}
use Rattle.lay.proofs.pen.Pen.put_bytes.Goals as goal

pub returns : goal.returns
returns c = record {
  lays = part _ _ _ _ _ _ c.saturating_add-next.ensures c.copy_from_slice.ensures.after (omega arith) (omega arith) (omega arith);
  lender = refl;
}
