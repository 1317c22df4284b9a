use Rattle.eval_trace.specs.Asked.{FieldRepeats}
use Rattle.eval_trace.proofs.RoundLaw.{FrontRepeats}
use Rattle.eval_trace.proofs.declarations.bound_rounds.Given as goal

abbrev pub invariant-loop-place : goal.invariant-loop-place
invariant-loop-place l = FrontRepeats (FieldRepeats l.judge) l.place l.most
