use Rattle.eval_tree.proofs.FrontLemmas.{ForFront}
use Rattle.eval_trace.specs.Asked.{IsBounded}
use Rattle.eval_trace.proofs.fields.values_hold.Given as goal

abbrev pub invariant-loop-number : goal.invariant-loop-number
invariant-loop-number l = ForFront (IsBounded l.judge l.position l.place l.bound) l.atoms.tuples l.number
