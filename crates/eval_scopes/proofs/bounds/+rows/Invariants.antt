use Rattle.std.proofs.Common.{◌+◌, ◌*◌, take}
use Rattle.eval_scopes.specs.Asked.{HasRowOf}
use Rattle.eval_scopes.proofs.bounds.+rows.Given as goal

abbrev pub decreases-has_row : goal.decreases-has_row
decreases-has_row l = 3 * l.more

abbrev pub decreases-has_column : goal.decreases-has_column
decreases-has_column l = 3 * l.more + 1

abbrev pub decreases-has_row_of : goal.decreases-has_row_of
decreases-has_row_of l = 3 * l.more + 2

abbrev pub invariant-has_row_of-loop-place : goal.invariant-has_row_of-loop-place
invariant-has_row_of-loop-place l = ¬ HasRowOf l.setting l.more (take l.place l.parents) l.atom
