use Rattle.std.proofs.Common.{length}
use Rattle.bound_uppers.proofs.rows.+rows_set.Given as goal

abbrev pub decreases-rows_set : goal.decreases-rows_set
decreases-rows_set l = length l.rows.now
