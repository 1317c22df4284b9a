use Rattle.std.proofs.Common.{All, take}
use Rattle.bound_naming.specs.Reckoned.{Stays}
use Rattle.bound_naming.proofs.neighbours.all_stay.Given as goal

abbrev pub invariant-loop-place : goal.invariant-loop-place
invariant-loop-place l = All (Stays l.relations l.a l.b) (take l.place l.spots)
