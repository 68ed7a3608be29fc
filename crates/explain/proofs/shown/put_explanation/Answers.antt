use Rattle.lay.proofs.Joins.{then, puts_as}
use Rattle.explain.proofs.shown.put_explanation.Goals as goal

pub returns : goal.returns
returns c = then (puts_as c.question_words.ensures c.put_text.ensures) (then c.put_byte.ensures (then c.put_place.ensures c.put_byte-2.ensures))
