use Rattle.eval_tree.proofs.forms.+walk.Given as goal

abbrev pub decreases-tuples_in : goal.decreases-tuples_in
decreases-tuples_in l = l.deep

abbrev pub decreases-holds_in : goal.decreases-holds_in
decreases-holds_in l = l.deep
