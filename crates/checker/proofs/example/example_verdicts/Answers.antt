use Rattle.checker.proofs.Showing.{examples_hold}
use Rattle.checker.proofs.example.example_verdicts.Goals as goal

pub returns : goal.returns
returns c = examples_hold
