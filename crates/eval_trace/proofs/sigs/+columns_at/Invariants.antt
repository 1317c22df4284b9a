use Rattle.std.proofs.Common.{length}
use Rattle.eval_trace.proofs.sigs.+columns_at.Given as goal

abbrev pub decreases-columns_at : goal.decreases-columns_at
decreases-columns_at l = length l.columns.now
