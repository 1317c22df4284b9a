use Rattle.eval_tree.proofs.walk.Walk.+backward.Given as goal

abbrev pub decreases-backward : goal.decreases-backward
decreases-backward g l = l.deep
