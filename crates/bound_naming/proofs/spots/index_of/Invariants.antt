use Rattle.bound_uppers.specs.Table.{IsTable}
use Rattle.bound_naming.specs.Reckoned.{IsIndex}
use Rattle.bound_naming.proofs.spots.index_of.Given as goal

abbrev pub invariant-loop-place : goal.invariant-loop-place
invariant-loop-place l = IsTable l.bounds → IsIndex l.bounds.relations l.atoms l.place l.lists.items
