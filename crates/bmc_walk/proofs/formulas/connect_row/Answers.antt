use Rattle.bmc_walk.proofs.formulas.connect_row.Goals as goal

pub returns-in_ok-row-in-Iff-clause-right : goal.returns-in_ok-row-in-Iff-clause-right
returns-in_ok-row-in-Iff-clause-right g c = rw c.in-Iff.is c.in_ok-row-in-Iff.ensures.right
