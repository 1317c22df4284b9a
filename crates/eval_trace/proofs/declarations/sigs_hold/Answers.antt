use Rattle.std.proofs.Common.{ap, length, arith}
use Rattle.eval_tree.proofs.FoundLemmas.{said_true, said_false}
use Rattle.eval_trace.specs.Asked.{SigIs}
use Rattle.eval_trace.proofs.FrontLaw.{before_none, before_more, before_fails, before_all}
use Rattle.eval_trace.proofs.declarations.sigs_hold.Goals as goal

pub loop-place-init : goal.loop-place-init
loop-place-init c =
    before_none c.args.judge.now.model.sigs (SigIs c.args.judge.now c.args.position)

pub returns-then-not-truth : goal.returns-then-not-truth
returns-then-not-truth c =
    before_fails c.args.judge.now.model.sigs (SigIs c.args.judge.now c.args.position) c.loop-place.place c.get-sig.result.now (rw c.sig_list-sigs.ensures at c.get-sig.ensures) (said_false c.in_ok-truth.truth c.in_ok-truth.ensures c.if-not-truth.true)

pub loop-place-preserved : goal.loop-place-preserved
loop-place-preserved c =
    before_more c.args.judge.now.model.sigs (SigIs c.args.judge.now c.args.position) c.loop-place.place c.get-sig.result.now (rw c.sig_list-sigs.ensures at c.get-sig.ensures) c.loop-place.invariant (said_true c.in_ok-truth.truth c.in_ok-truth.ensures c.if-not-truth.false)

pub returns : goal.returns
returns c =
    before_all c.args.judge.now.model.sigs (SigIs c.args.judge.now c.args.position) c.loop-place.place (omega (arith, ap length c.sig_list-sigs.ensures)) c.loop-place.invariant
