use Rattle.core_tree.specs.Models.{IsRightSig}
use Rattle.resolve_check.proofs.Owners.{all_more, all_whole}
use Rattle.resolve_check.proofs.sigs.are_right_sigs.Goals as goal

pub loop-sig-preserved : goal.loop-sig-preserved
loop-sig-preserved c = all_more (IsRightSig c.args.model.now) c.args.sigs.now c.loop-sig.sig-index c.sig-item.result c.loop-sig-test.true c.sig-item.is c.loop-sig.invariant (c.in_ok-is_right_sig.ensures c.if-not-branch.false)

pub returns : goal.returns
returns c = λ t. all_whole (IsRightSig c.args.model.now) c.args.sigs.now c.loop-sig.sig-index c.loop-sig-test.false c.loop-sig.invariant
