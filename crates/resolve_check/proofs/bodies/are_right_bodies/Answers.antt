use Rattle.core_tree.specs.Models.{IsRightBody}
use Rattle.resolve_check.proofs.Owners.{all_more, all_whole}
use Rattle.resolve_check.proofs.bodies.are_right_bodies.Goals as goal

pub loop-body-preserved : goal.loop-body-preserved
loop-body-preserved c = all_more (IsRightBody c.args.model.now) c.args.bodies.now c.loop-body.body-index c.body-item.result c.loop-body-test.true c.body-item.is c.loop-body.invariant (c.in_ok-is_right_body.ensures c.if-not-branch.false)

pub returns : goal.returns
returns c = λ t. all_whole (IsRightBody c.args.model.now) c.args.bodies.now c.loop-body.body-index c.loop-body-test.false c.loop-body.invariant
