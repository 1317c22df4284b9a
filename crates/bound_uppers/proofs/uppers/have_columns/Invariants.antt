use Rattle.std.proofs.Common.{◌≡◌, All, length, take}
use Rattle.bound_uppers.proofs.uppers.have_columns.Given as goal

abbrev pub invariant-loop-row : goal.invariant-loop-row
invariant-loop-row l = All (λ r. length r ≡ l.columns) (take l.row-index l.rows)
