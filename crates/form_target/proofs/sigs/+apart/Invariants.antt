use Rattle.std.proofs.Common.{length}
use Rattle.form_target.proofs.sigs.+apart.Given as goal

abbrev pub decreases-apart : goal.decreases-apart
decreases-apart l = length l.sigs.now
