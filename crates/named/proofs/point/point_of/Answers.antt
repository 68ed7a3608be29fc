use Rattle.std.proofs.Common.{◌∙◌}
use Rattle.named.proofs.Ranges.{whole}
use Rattle.named.proofs.point.point_of.Goals as goal

pub returns : goal.returns
returns c = record { value = c.by_kind.ensures; whole = λ e h. c.by_kind.ensures ∙ whole e c.args.operand h }
