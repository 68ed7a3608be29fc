use Rattle.block_laws.proofs.Counters.{counts}
use Rattle.block_laws.proofs.counts_hold.Goals as goal

pub returns : goal.returns
returns c = counts
