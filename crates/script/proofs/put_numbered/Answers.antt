use Rattle.lay.proofs.Joins.{then}
use Rattle.script.proofs.put_numbered.Goals as goal

pub returns : goal.returns
returns g c = then c.put_mnemonic.ensures (then c.put_byte.ensures c.put_number.ensures)
