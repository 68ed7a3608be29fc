use Rattle.lay.proofs.Joins.{then}
use Rattle.script.proofs.put_pair.Goals as goal

pub returns : goal.returns
returns c = then c.put_two.ensures (then c.put_byte.ensures c.put_two-2.ensures)
