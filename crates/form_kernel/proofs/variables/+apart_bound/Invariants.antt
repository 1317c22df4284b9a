use Rattle.form_kernel.proofs.variables.+apart_bound.Given as goal

abbrev pub decreases-apart_bound : goal.decreases-apart_bound
decreases-apart_bound l = l.place
