use Rattle.std.proofs.Common.{length}
use Rattle.resolve_type_check.proofs.pairs.+meet_row.Given as goal

abbrev pub decreases-meet_row : goal.decreases-meet_row
decreases-meet_row l = length l.a.now
