use Rattle.std.proofs.Common.{◌≡◌, take}
use Rattle.resolve_types.proofs.rows.copy_rows.Given as goal

abbrev pub invariant-loop-row : goal.invariant-loop-row
invariant-loop-row l = l.all ≡ take l.row-index l.rows
