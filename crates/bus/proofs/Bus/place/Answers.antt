use Rattle.bus.proofs.Looking.{placed}
use Rattle.bus.proofs.Bus.place.Goals as goal

pub returns : goal.returns
returns c = rw c.ok_or.ensures.value (placed _ c.args.self.now.modules.now c.args.point c.first_of.result c.first_of.ensures)
