use Rattle.std.proofs.Common.{◌≡◌, map, reverse, take}
use Rattle.resolve_type_check.proofs.pairs.turned_rows.Given as goal

abbrev pub invariant-loop-row : goal.invariant-loop-row
invariant-loop-row l = l.all ≡ map (λ r. reverse r) (take l.row-index l.rows)
