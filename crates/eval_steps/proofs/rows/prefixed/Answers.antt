use Rattle.eval_steps.proofs.StepLaw.{prefix_more, prefix_all}
use Rattle.eval_steps.proofs.rows.prefixed.Goals as goal

pub loop-number-preserved : goal.loop-number-preserved
loop-number-preserved c =
    prefix_more c.args.atom c.numbers-numbers.result.now c.loop-number.number-index c.loop-number.longer c.push.new.self c.loop-number-test.true c.loop-number.invariant c.in_ok-push.ensures.ok

pub returns : goal.returns
returns c =
    prefix_all c.args.atom c.numbers-numbers.result.now c.args.tuple.now c.loop-number.number-index c.loop-number.longer c.loop-number-test.false c.numbers-numbers.ensures c.loop-number.invariant
