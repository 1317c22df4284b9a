use Rattle.bound_naming.proofs.Indexing.{GrowsTo}
use Rattle.bound_naming.proofs.spots.add_bound.Given as goal

abbrev pub invariant-loop-place : goal.invariant-loop-place
invariant-loop-place l = GrowsTo l.initial.lists.items l.lists.items l.bound.order l.relation l.place l.bound.upper.tuples
