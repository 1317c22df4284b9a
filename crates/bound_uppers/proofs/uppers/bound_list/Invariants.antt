use Rattle.bound_uppers.proofs.Sketching.{AreBoundsTo}
use Rattle.bound_uppers.proofs.uppers.bound_list.Given as goal

abbrev pub invariant-loop-relation : goal.invariant-loop-relation
invariant-loop-relation l = AreBoundsTo l.sets l.all l.places l.relation l.list
