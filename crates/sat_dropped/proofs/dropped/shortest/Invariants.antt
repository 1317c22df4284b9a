use Rattle.std.proofs.Common.{◌<◌, length}
use Rattle.sat_dropped.proofs.dropped.shortest.Given as goal

abbrev pub invariant-loop-place : goal.invariant-loop-place
invariant-loop-place l = l.best < length l.literals
