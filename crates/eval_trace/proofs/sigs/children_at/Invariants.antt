use Rattle.eval_steps.specs.Judged.{set_in}
use Rattle.eval_trace.proofs.SigLaw.{Gathered}
use Rattle.eval_trace.proofs.sigs.children_at.Given as goal

abbrev pub invariant-loop-place : goal.invariant-loop-place
invariant-loop-place l = Gathered l.judge l.position l.parent l.place (set_in l.all)
