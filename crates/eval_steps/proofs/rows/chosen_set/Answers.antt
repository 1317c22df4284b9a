use Rattle.eval_steps.proofs.StepLaw.{chosen_none, chosen_more, chosen_all}
use Rattle.eval_steps.proofs.rows.chosen_set.Goals as goal

pub loop-row-init : goal.loop-row-init
loop-row-init c =
    chosen_none c.empty_of-set.result c.args.rows.now c.empty_of-set.ensures

pub loop-row-preserved : goal.loop-row-preserved
loop-row-preserved c =
    chosen_more c.loop-row.set c.put.new.set c.args.rows.now c.loop-row.row-index c.row-item.result c.in_ok-chosen.chosen c.loop-row-test.true c.row-item.is c.in_ok-chosen.ensures c.loop-row.invariant c.in_ok-put.ensures.ok

pub returns : goal.returns
returns c =
    chosen_all c.loop-row.set c.args.rows.now c.loop-row.row-index c.loop-row-test.false c.loop-row.invariant
