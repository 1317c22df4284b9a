use Rattle.std.proofs.Common.{◌≡◌, map, reverse, take}
use Rattle.resolve_types.proofs.rows.turned_rows.Given as goal

abbrev pub invariant-loop-row : goal.invariant-loop-row
invariant-loop-row l = l.all ≡ map reverse (take l.row-index l.rows)
