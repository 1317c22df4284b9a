use Rattle.std.proofs.Common.{take}
use Rattle.bmc_walk.specs.Ready.{StandAlike}
use Rattle.bmc_walk.proofs.ready.stand_alike.Given as goal

abbrev pub invariant-loop-place : goal.invariant-loop-place
invariant-loop-place l = StandAlike l.here l.there (take l.place l.names.items)
