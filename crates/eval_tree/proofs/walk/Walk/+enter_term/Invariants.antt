use Rattle.eval_tree.proofs.walk.Walk.+enter_term.Given as goal

abbrev pub decreases-enter_term : goal.decreases-enter_term
decreases-enter_term g l = l.deep
