use Rattle.bmc_walk.proofs.tied.+walked.Given as goal

abbrev pub decreases-walked : goal.decreases-walked
decreases-walked g l = l.deep
