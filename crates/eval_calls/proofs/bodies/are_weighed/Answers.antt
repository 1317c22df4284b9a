use Rattle.std.proofs.Common.{arith}
use Rattle.eval_calls.proofs.Weighed.{front_more, front_all}
use Rattle.eval_calls.proofs.bodies.are_weighed.Goals as goal

pub loop-body-preserved : goal.loop-body-preserved
loop-body-preserved c = front_more c.args.bodies.now c.args.weights.now c.loop-body.body c.loop-body.invariant (c.is_weighed.ensures c.if-not-is_weighed.false)

pub returns : goal.returns
returns c e = front_all c.args.bodies.now c.args.weights.now c.loop-body.body (omega arith) c.loop-body.invariant
