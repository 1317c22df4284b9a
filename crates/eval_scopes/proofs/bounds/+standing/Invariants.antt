use Rattle.eval_scopes.proofs.bounds.+standing.Given as goal

abbrev pub decreases-standing : goal.decreases-standing
decreases-standing l = l.more
