use Rattle.block_laws.proofs.Agreeing.{agreed}
use Rattle.block_laws.proofs.windows_agree.Goals as goal

pub returns : goal.returns
returns c = agreed
