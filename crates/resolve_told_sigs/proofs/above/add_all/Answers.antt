use Rattle.resolve_told_sigs.proofs.Lists.{added_at}
use Rattle.resolve_told_sigs.proofs.above.add_all.Goals as goal

pub loop-parent-preserved : goal.loop-parent-preserved
loop-parent-preserved c = added_at c.args.parents.now c.loop-parent.parent-index _ c.args.list.now.items c.loop-parent.list.items c.add_parent.new.list.items c.loop-parent-test.true c.loop-parent.invariant c.in_ok-add_parent.ensures
