use Rattle.eval_steps.proofs.StepLaw.{rows_more, rows_all}
use Rattle.eval_steps.proofs.rows.add_rows.Goals as goal

pub loop-row-preserved : goal.loop-row-preserved
loop-row-preserved c =
    rows_more c.args.atom c.args.more.now c.loop-row.row-index c.row-item.result c.in_ok-added.added c.args.rows.now.items c.loop-row.rows.items c.push.new.self.items c.loop-row-test.true c.row-item.is c.in_ok-added.ensures c.loop-row.invariant c.in_ok-push.ensures.items

pub returns : goal.returns
returns c =
    rows_all c.args.atom c.args.more.now c.loop-row.row-index c.args.rows.now.items c.loop-row.rows.items c.loop-row-test.false c.loop-row.invariant
