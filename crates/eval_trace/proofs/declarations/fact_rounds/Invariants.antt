use Rattle.eval_trace.specs.Asked.{SigRepeats}
use Rattle.eval_trace.proofs.RoundLaw.{FrontRepeats}
use Rattle.eval_trace.proofs.declarations.fact_rounds.Given as goal

abbrev pub invariant-loop-place : goal.invariant-loop-place
invariant-loop-place l = FrontRepeats (SigRepeats l.judge) l.place l.most
