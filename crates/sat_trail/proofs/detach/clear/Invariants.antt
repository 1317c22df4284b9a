use Rattle.sat_trail.proofs.Detaching.{IsClearing}
use Rattle.sat_trail.proofs.detach.clear.Given as goal

abbrev pub invariant-loop-clause : goal.invariant-loop-clause
invariant-loop-clause l = IsClearing l.marks l.at l.initial.attached.items l.attached.items l.clause
