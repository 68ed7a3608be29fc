use Rattle.std.proofs.Common.{arith}
use Rattle.constants.proofs.Judging.{judged}
use Rattle.constants.proofs.pass.judge_words.Goals as goal

pub returns : goal.returns
returns c =
    record { first = c.find_fault.ensures; judged = λ n q. judged c.args.edition n c.args.words.now q (λ i. let f = c.type_inv.words i in omega arith) _ c.find_fault.ensures }
