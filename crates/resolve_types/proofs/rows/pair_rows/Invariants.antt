use Rattle.std.proofs.Common.{◌≡◌, take}
use Rattle.resolve_types.specs.Types.{row_of, pairs}
use Rattle.resolve_types.proofs.rows.pair_rows.Given as goal

abbrev pub invariant-loop-row : goal.invariant-loop-row
invariant-loop-row l = l.all ≡ pairs (row_of l.lines l.way) (take l.row-index l.rows) l.others
