use Rattle.sat_trail.proofs.Detaching.{IsUnwatching}
use Rattle.sat_trail.proofs.detach.unwatch.Given as goal

abbrev pub invariant-loop-clause : goal.invariant-loop-clause
invariant-loop-clause l = IsUnwatching l.marks l.initial.at.items l.at.items l.clause
