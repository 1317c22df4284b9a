use Rattle.bmc_stack.proofs.windows.since_in.Goals as goal

pub returns-clause-moving : goal.returns-clause-moving
returns-clause-moving g c = record { long = c.in_ok-made.ensures.length; values = c.in_ok-made.ensures.truth }
