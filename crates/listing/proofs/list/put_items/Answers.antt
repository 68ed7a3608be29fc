use Rattle.lay.proofs.Joins.{then, nothing, puts_as}
use Rattle.script.specs.Texts.{item_text}
use Rattle.listing.proofs.Loops.{no_lines, one_more}
use Rattle.listing.proofs.list.put_items.Goals as goal

pub loop-item-init : goal.loop-item-init
loop-item-init c = puts_as (no_lines item_text) (nothing c.args.pen.now)

pub loop-item-preserved : goal.loop-item-preserved
loop-item-preserved c = puts_as (one_more item_text _ _) (then c.loop-item.invariant c.put_line.ensures)
