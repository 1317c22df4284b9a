use Rattle.std.proofs.Common.{◌<◌, length, arith}
use Rattle.std.proofs.lemmas.Result.{on_ok_weaker}
use Rattle.answer_trace.proofs.Arranging.{none_put, one_put}
use Rattle.answer_trace.proofs.read.push_set.Goals as goal

pub returns-then-order-sets : goal.returns-then-order-sets
returns-then-order-sets c = none_put c.args.state.now c.args.sets.now c.args.order c.if-order-sets.true

pub returns : goal.returns
returns c =
    let lt : c.args.order < length c.args.sets.now = omega arith in
    on_ok_weaker c.push.result (λ put. one_put c.args.state.now c.push.new.self c.args.sets.now c.args.order c.index-sets-order.result c.in_ok-copy.field-0 lt c.index-sets-order.is c.in_ok-copy.ensures put) c.push.ensures.ok
