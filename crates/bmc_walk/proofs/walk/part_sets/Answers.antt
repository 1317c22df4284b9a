use Rattle.bmc_walk.proofs.walk.part_sets.Goals as goal

pub returns-in-Numbers-clause-right : goal.returns-in-Numbers-clause-right
returns-in-Numbers-clause-right g c = rw c.in-Numbers.is at c.in_ok-answer.ensures.answers
