use Rattle.std.proofs.Common.{◌≡◌, take}
use Rattle.form_skolem.proofs.bounds.rows_copy.Given as goal

abbrev pub invariant-loop-row : goal.invariant-loop-row
invariant-loop-row l = l.all ≡ take l.row-index l.rows
