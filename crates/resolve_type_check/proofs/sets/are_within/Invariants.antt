use Rattle.std.proofs.Common.{take}
use Rattle.resolve_type_check.specs.Same.{Within}
use Rattle.resolve_type_check.proofs.sets.are_within.Given as goal

abbrev pub invariant-loop-row : goal.invariant-loop-row
invariant-loop-row l = Within (take l.row-index l.rows) l.others
