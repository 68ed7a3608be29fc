use Rattle.std.proofs.Common.{arith}
use Rattle.checker.proofs.Passing.{judges}
use Rattle.checker.proofs.check.check.Goals as goal

pub returns : goal.returns
returns c =
    record { answer = c.decide.ensures; exact = judges c.args.words.now (λ i. let f = c.type_inv.words i in omega arith) _ c.decide.ensures }
