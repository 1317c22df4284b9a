use Rattle.eval_tree.proofs.walk.Walk.+every.Given as goal

abbrev pub decreases-every : goal.decreases-every
decreases-every g l = l.deep
