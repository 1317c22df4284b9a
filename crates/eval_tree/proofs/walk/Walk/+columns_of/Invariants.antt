use Rattle.eval_tree.proofs.walk.Walk.+columns_of.Given as goal

abbrev pub decreases-columns_of : goal.decreases-columns_of
decreases-columns_of g l = l.deep
