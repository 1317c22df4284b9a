use Rattle.std.proofs.Common.{◌-◌}
use Rattle.sat_decide.proofs.heap.sink.Given as goal

abbrev pub decreases-down : goal.decreases-down
decreases-down l = l.len - l.place
