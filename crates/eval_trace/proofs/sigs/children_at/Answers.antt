use Rattle.std.proofs.Common.{ap, length, arith}
use Rattle.eval_tree.proofs.FoundLemmas.{said_true, said_false}
use Rattle.eval_trace.proofs.SigLaw.{children_none, children_skip, children_more, children_fail, children_all}
use Rattle.eval_trace.proofs.sigs.children_at.Goals as goal

pub loop-place-init : goal.loop-place-init
loop-place-init c =
    children_none c.args.judge.now c.args.position c.args.parent c.nothing-all.result c.nothing-all.ensures

pub loop-place-preserved-then-not-child : goal.loop-place-preserved-then-not-child
loop-place-preserved-then-not-child c =
    children_skip c.args.judge.now c.args.position c.args.parent c.loop-place.place c.get-sig.result.now (rw c.sig_list-sigs.ensures at c.get-sig.ensures) (said_false c.is_child-child.result c.is_child-child.ensures c.if-not-child.true) c.loop-place.all c.loop-place.invariant

pub returns-then-some : goal.returns-then-some
returns-then-some c =
    children_fail c.args.judge.now c.args.position c.args.parent c.loop-place.place c.get-sig.result.now (rw c.sig_list-sigs.ensures at c.get-sig.ensures) (said_true c.is_child-child.result c.is_child-child.ensures c.if-not-child.false) c.loop-place.all c.relation_at-members.result c.loop-place.invariant c.relation_at-members.ensures (said_true c.in_ok-some.some c.in_ok-some.ensures c.if-some.true)

pub loop-place-preserved : goal.loop-place-preserved
loop-place-preserved c =
    children_more c.args.judge.now c.args.position c.args.parent c.loop-place.place c.get-sig.result.now (rw c.sig_list-sigs.ensures at c.get-sig.ensures) (said_true c.is_child-child.result c.is_child-child.ensures c.if-not-child.false) c.loop-place.all c.relation_at-members.result c.in_ok-more.more c.loop-place.invariant c.relation_at-members.ensures (said_false c.in_ok-some.some c.in_ok-some.ensures c.if-some.false) c.in_ok-more.ensures

pub returns : goal.returns
returns c =
    children_all c.args.judge.now c.args.position c.args.parent c.loop-place.place (omega (arith, ap length c.sig_list-sigs.ensures)) c.loop-place.all c.loop-place.invariant
