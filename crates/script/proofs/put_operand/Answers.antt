use Rattle.lay.proofs.Joins.{then, puts_as}
use Rattle.script.proofs.put_operand.Goals as goal

pub returns : goal.returns
returns c = then (puts_as c.letters.ensures c.put_text.ensures) (then c.put_byte.ensures c.put_pair.ensures)
