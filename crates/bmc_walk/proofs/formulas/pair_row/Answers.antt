use Rattle.bmc_walk.proofs.formulas.pair_row.Goals as goal

pub returns-in_ok-row-in-Until-clause-right : goal.returns-in_ok-row-in-Until-clause-right
returns-in_ok-row-in-Until-clause-right g c = rw c.in-Until.is c.in_ok-row-in-Until.ensures.right

pub returns-in_ok-row-in-Since-clause-right : goal.returns-in_ok-row-in-Since-clause-right
returns-in_ok-row-in-Since-clause-right g c = rw c.in-Since.is c.in_ok-row-in-Since.ensures.right
