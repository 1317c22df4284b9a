use Rattle.eval_tree.proofs.walk.Walk.+lies_in.Given as goal

abbrev pub decreases-lies_in : goal.decreases-lies_in
decreases-lies_in g l = l.deep
