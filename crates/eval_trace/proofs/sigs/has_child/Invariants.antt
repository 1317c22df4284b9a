use Rattle.std.proofs.Common.{ℕ}
use Rattle.eval_trace.proofs.SigLaw.{ChildBefore}
use Rattle.eval_trace.proofs.sigs.has_child.Given as goal

abbrev pub invariant-loop-place : goal.invariant-loop-place
invariant-loop-place l = (b : ℕ) → ¬ ChildBefore l.sigs l.parent l.place b
