use Rattle.std.proofs.Common.{length}
use Rattle.resolve_type_check.proofs.names.+look_up.Given as goal

abbrev pub decreases-look_up : goal.decreases-look_up
decreases-look_up l = length l.names.now
