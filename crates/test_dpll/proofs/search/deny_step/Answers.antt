use Rattle.test_dpll.proofs.search.deny_step.Goals as goal

pub returns-in-None : goal.returns-in-None
returns-in-None c = rw c.in-None.is at c.in_ok-denied.ensures

pub step_back-requires : goal.step_back-requires
step_back-requires c = rw c.in-Some.is at c.in_ok-denied.ensures
