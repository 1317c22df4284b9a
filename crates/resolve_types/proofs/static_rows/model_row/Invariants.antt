use Rattle.std.proofs.Common.{◌≡◌, map, take}
use Rattle.resolve_types.specs.StaticRows.{column_of}
use Rattle.resolve_types.proofs.static_rows.model_row.Given as goal

abbrev pub invariant-loop-member : goal.invariant-loop-member
invariant-loop-member l = l.all ≡ map column_of (take l.member-index l.row)
