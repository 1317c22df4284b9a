use Rattle.std.proofs.Common.{arith}
use Rattle.eval_tree.proofs.FoundLemmas.{said_true, said_false}
use Rattle.eval_trace.proofs.SigLaw.{none_before, child_here, no_more, childless}
use Rattle.eval_trace.proofs.sigs.has_child.Goals as goal

pub loop-place-init : goal.loop-place-init
loop-place-init c =
    none_before c.sig_list-sigs.result.now c.args.parent

pub returns-then-child : goal.returns-then-child
returns-then-child c =
    child_here c.args.judge.now.model.sigs c.args.parent c.loop-place.place c.get-sig.result.now (rw c.sig_list-sigs.ensures at c.get-sig.ensures) (said_true c.is_child-child.result c.is_child-child.ensures c.if-child.true)

pub loop-place-preserved : goal.loop-place-preserved
loop-place-preserved c =
    no_more c.sig_list-sigs.result.now c.args.parent c.loop-place.place c.get-sig.result.now c.get-sig.ensures (said_false c.is_child-child.result c.is_child-child.ensures c.if-child.false) c.loop-place.invariant

pub returns : goal.returns
returns c =
    rw (← c.sig_list-sigs.ensures) (childless c.sig_list-sigs.result.now c.args.parent c.loop-place.place (omega arith) c.loop-place.invariant)
