use Rattle.std.proofs.Common.{length}
use Rattle.bound_naming.specs.declared.neighbours.TheConstants.{NAMED_PAIRS}
use Rattle.bound_naming.specs.Reckoned.{IsReady, ArePairsTo}
use Rattle.bound_naming.proofs.neighbours.all_pairs.Given as goal

abbrev pub invariant-loop-atom : goal.invariant-loop-atom
invariant-loop-atom l = IsReady l.bounds l.table l.lists.items → ArePairsTo l.bounds (length l.lists.items) NAMED_PAIRS l.atom l.all.items
