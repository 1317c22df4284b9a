use Rattle.resolve_told_sigs.specs.Own.{IsIn}
use Rattle.resolve_told_sigs.proofs.Lists.{all_at, all_whole}
use Rattle.resolve_told_sigs.proofs.above.are_in.Goals as goal

pub loop-parent-preserved : goal.loop-parent-preserved
loop-parent-preserved c = all_at (IsIn c.args.list.now) c.args.parents.now c.loop-parent.parent-index _ c.loop-parent-test.true c.loop-parent.invariant (c.is_in.ensures c.if-not-is_in.false)

pub returns : goal.returns
returns c = λ t. all_whole (IsIn c.args.list.now) c.args.parents.now c.loop-parent.parent-index c.loop-parent-test.false c.loop-parent.invariant
