use Rattle.std.proofs.Common.{take}
use Rattle.bound_naming.specs.Reckoned.{Grow, has_atom, one_spot}
use Rattle.bound_naming.proofs.spots.add_tuple.Given as goal

abbrev pub invariant-loop-column : goal.invariant-loop-column
invariant-loop-column l = Grow l.initial.lists.items l.lists.items (λ a. one_spot (has_atom a (take l.column l.numbers)) l.spot)
