use Rattle.std.proofs.Common.{◌≡◌, map, take}
use Rattle.resolve_types.specs.StaticRows.{row_of}
use Rattle.resolve_types.proofs.static_rows.model_rows.Given as goal

abbrev pub invariant-loop-row : goal.invariant-loop-row
invariant-loop-row l = l.all ≡ map row_of (take l.row-index l.rows)
