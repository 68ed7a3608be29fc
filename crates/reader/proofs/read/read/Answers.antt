use Rattle.reader.proofs.Walking.{refused, stopped, went_on, complete, missing}
use Rattle.reader.proofs.read.read.Goals as goal

-- tried: with these five lemmas named at the function, goals stay open
pub returns-in_err-step : goal.returns-in_err-step
returns-in_err-step c =
    let stops = stopped c.args.edition c.args.end c.args.tokens.now _ _ _ c.loop-placed.invariant _ _ c.loop-placed-test.true c.in_err-step.ensures in
    refused _ _ c.from_residual.result stops c.from_residual.ensures.1

pub loop-placed-preserved : goal.loop-placed-preserved
loop-placed-preserved c = went_on c.args.edition c.args.end c.args.tokens.now _ _ _ c.loop-placed.invariant _ _ _ _ c.loop-placed-test.true c.in_ok-step.ensures c.in_ok-put.ensures.items c.in_ok-put.ensures.constants

pub returns-then-may_stop : goal.returns-then-may_stop
returns-then-may_stop c = complete c.args.edition c.args.end c.args.tokens.now _ _ _ c.loop-placed.invariant c.loop-placed-test.false c.if-may_stop.ensures

pub returns-else-may_stop : goal.returns-else-may_stop
returns-else-may_stop c = missing c.args.edition c.args.end c.args.tokens.now _ _ _ c.loop-placed.invariant c.loop-placed-test.false c.if-may_stop.ensures
