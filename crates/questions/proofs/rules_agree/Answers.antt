use Rattle.questions.proofs.Agreeing.{rules_agree}
use Rattle.questions.proofs.rules_agree.Goals as goal

pub returns : goal.returns
returns c = rules_agree
