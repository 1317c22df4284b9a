use Rattle.std.proofs.Common.{◌≡◌, ◌++◌, take}
use Rattle.resolve_type_check.proofs.pairs.add_rows.Given as goal

abbrev pub invariant-loop-row : goal.invariant-loop-row
invariant-loop-row l = l.all ≡ l.initial.all ++ take l.row-index l.rows
