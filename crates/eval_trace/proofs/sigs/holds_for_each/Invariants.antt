use Rattle.eval_tree.proofs.FrontLemmas.{ForFront}
use Rattle.eval_trace.proofs.SigLaw.{ForMember}
use Rattle.eval_trace.proofs.sigs.holds_for_each.Given as goal

abbrev pub invariant-loop-number : goal.invariant-loop-number
invariant-loop-number l = ForFront (ForMember l.judge l.position l.place l.fact) l.set.tuples l.number
