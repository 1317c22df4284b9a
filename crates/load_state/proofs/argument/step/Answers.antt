use Rattle.std.proofs.Common.{arith}
use Rattle.load_state.proofs.Through.{after_none, after_next, after_all}
use Rattle.load_state.proofs.argument.step.Goals as goal

pub loop-f-init : goal.loop-f-init
loop-f-init c = λ n. after_none c.args.finished.now c.args.among c.args.alias.now n

pub loop-f-preserved : goal.loop-f-preserved
loop-f-preserved c = λ n.
    after_next c.args.finished.now c.loop-f.f-index _ c.f-item.result c.args.among c.args.alias.now n c.loop-f-test.true c.f-item.is (omega arith) (c.loop-f.invariant n) (c.step_of.ensures n) (c.with-next.ensures n)

pub returns : goal.returns
returns c = λ n. after_all c.args.finished.now c.loop-f.f-index c.args.among c.loop-f.next c.args.alias.now n (omega (arith, c.loop-f-test.false)) (c.loop-f.invariant n)
