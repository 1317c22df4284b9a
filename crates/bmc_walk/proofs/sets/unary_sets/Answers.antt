use Rattle.bmc_walk.proofs.sets.unary_sets.Goals as goal

pub returns-in_ok-made-in-Transpose-clause-right : goal.returns-in_ok-made-in-Transpose-clause-right
returns-in_ok-made-in-Transpose-clause-right g c = rw c.in-Transpose.is c.in_ok-made-in-Transpose.ensures.right

pub returns-in_ok-made-in-Closure-clause-right : goal.returns-in_ok-made-in-Closure-clause-right
returns-in_ok-made-in-Closure-clause-right g c = rw c.in-Closure.is c.in_ok-made-in-Closure.ensures.right
