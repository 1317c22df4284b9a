use Rattle.std.proofs.Common.{arith}
use Rattle.eval_tree.proofs.FoundLemmas.{said_true, said_false}
use Rattle.eval_trace.specs.Asked.{AllAre}
use Rattle.eval_trace.proofs.FrontLaw.{none_yet, one_more}
use Rattle.eval_trace.proofs.RoundLaw.{everywhere}
use Rattle.eval_trace.proofs.declarations.first_failing.Goals as goal

pub loop-position-init : goal.loop-position-init
loop-position-init c =
    none_yet (AllAre c.args.judge.now)

pub returns-then-not-truth : goal.returns-then-not-truth
returns-then-not-truth c =
    (said_false c.in_ok-truth.truth c.in_ok-truth.ensures c.if-not-truth.true, c.loop-position.invariant)

pub loop-position-preserved : goal.loop-position-preserved
loop-position-preserved c =
    one_more (AllAre c.args.judge.now) c.loop-position.position c.loop-position.invariant (said_true c.in_ok-truth.truth c.in_ok-truth.ensures c.if-not-truth.false)

pub returns : goal.returns
returns c =
    everywhere c.args.judge.now c.declaration_rounds-rounds.result c.in_ok-end.end c.period.ensures.loops (omega arith) (c.declaration_rounds-rounds.ensures (omega arith)) c.in_ok-end.ensures (λ i lt. c.loop-position.invariant i (omega arith))
