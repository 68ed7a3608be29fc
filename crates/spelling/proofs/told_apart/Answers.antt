use Rattle.spelling.proofs.Reread.{rule, back, only}
use Rattle.spelling.proofs.told_apart.Goals as goal

pub returns : goal.returns
returns c = record { rule = rule; back = back; only = only }
