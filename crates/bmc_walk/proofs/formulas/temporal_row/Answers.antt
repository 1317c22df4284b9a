use Rattle.bmc_walk.proofs.formulas.temporal_row.Goals as goal

pub returns-in_ok-row-in-After-clause-right : goal.returns-in_ok-row-in-After-clause-right
returns-in_ok-row-in-After-clause-right g c = rw c.in-After.is c.in_ok-row-in-After.ensures.right

pub returns-in_ok-row-in-Before-clause-right : goal.returns-in_ok-row-in-Before-clause-right
returns-in_ok-row-in-Before-clause-right g c = rw c.in-Before.is c.in_ok-row-in-Before.ensures.right
