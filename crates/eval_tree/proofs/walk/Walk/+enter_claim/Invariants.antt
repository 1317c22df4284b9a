use Rattle.eval_tree.proofs.walk.Walk.+enter_claim.Given as goal

abbrev pub decreases-enter_claim : goal.decreases-enter_claim
decreases-enter_claim g l = l.deep
