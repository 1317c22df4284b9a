use Rattle.eval_scopes.proofs.bounds.+top_above.Given as goal

abbrev pub decreases-top_above : goal.decreases-top_above
decreases-top_above l = l.more
