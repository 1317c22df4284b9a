use Rattle.resolve_names.specs.Marks.{IsBegun}
use Rattle.resolve_names.proofs.Walk.{count_free}
use Rattle.resolve_names.proofs.reach.spread.Given as goal

abbrev pub invariant-loop-target : goal.invariant-loop-target
invariant-loop-target l = IsBegun l.scopes l.from l.opens l.marks.items

abbrev pub decreases-loop-target : goal.decreases-loop-target
decreases-loop-target l = count_free l.marks.items
