use Rattle.bmc_stack.proofs.steps.push_constant.Goals as goal

pub returns-clause-pushed : goal.returns-clause-pushed
returns-clause-pushed g c = (c.in_ok-row.row, c.in_ok-push_row.ensures.pushed, c.in_ok-row.ensures.values)
