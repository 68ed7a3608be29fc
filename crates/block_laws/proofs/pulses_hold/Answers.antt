use Rattle.block_laws.proofs.Edges.{edges}
use Rattle.block_laws.proofs.pulses_hold.Goals as goal

pub returns : goal.returns
returns c = edges
