use Rattle.block_laws.proofs.Timers.{delays}
use Rattle.block_laws.proofs.delays_hold.Goals as goal

pub returns : goal.returns
returns c = delays
