use Rattle.std.proofs.Common.{◌<◌, length}
use Rattle.sat_decide.proofs.heap.rise.Given as goal

abbrev pub invariant-up : goal.invariant-up
invariant-up l = l.place < length l.order

abbrev pub decreases-up : goal.decreases-up
decreases-up l = l.place
