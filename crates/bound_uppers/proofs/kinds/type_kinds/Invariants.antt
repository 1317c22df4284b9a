use Rattle.std.proofs.Common.{◌≡◌, map, take}
use Rattle.bound_uppers.specs.Kinds.{row_kinds_of}
use Rattle.bound_uppers.proofs.kinds.type_kinds.Given as goal

abbrev pub invariant-loop-row : goal.invariant-loop-row
invariant-loop-row l = l.all.items ≡ map (row_kinds_of l.ups) (take l.row-index l.rows)
