use Rattle.std.proofs.Common.{◌≡◌, ◌++◌, drop}
use Rattle.bound_naming.specs.Reckoned.{matches_of}
use Rattle.bound_naming.proofs.partners.matches_of.Given as goal

abbrev pub invariant-loop-place : goal.invariant-loop-place
invariant-loop-place l = l.all ++ matches_of l.relations l.a l.b (drop l.place l.spots) ≡ matches_of l.relations l.a l.b l.spots
