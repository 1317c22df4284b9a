use Rattle.bmc_walk.proofs.sums.+body_ints.Given as goal

abbrev pub decreases-body_ints : goal.decreases-body_ints
decreases-body_ints g l = l.deep
