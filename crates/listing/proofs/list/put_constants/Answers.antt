use Rattle.lay.proofs.Joins.{then, nothing, puts_as}
use Rattle.script.specs.Texts.{constant_text}
use Rattle.listing.proofs.Loops.{no_lines, one_more}
use Rattle.listing.proofs.list.put_constants.Goals as goal

pub loop-constant-init : goal.loop-constant-init
loop-constant-init c = puts_as (no_lines constant_text) (nothing c.args.pen.now)

pub loop-constant-preserved : goal.loop-constant-preserved
loop-constant-preserved c = puts_as (one_more constant_text _ _) (then c.loop-constant.invariant c.put_line.ensures)
