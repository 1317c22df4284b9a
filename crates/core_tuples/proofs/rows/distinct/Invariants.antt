use Rattle.core_tuples.proofs.DistinctLaw.{Distinct}
use Rattle.core_tuples.proofs.rows.distinct.Given as goal

abbrev pub invariant-loop-place : goal.invariant-loop-place
invariant-loop-place l = Distinct l.arity l.tuples l.kept.items l.place
