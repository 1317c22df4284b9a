use Rattle.std.proofs.Common.{◌∙◌}
use Rattle.bmc_encoder.proofs.roots.value_at_loop.Goals as goal

pub returns-clause-value : goal.returns-clause-value
returns-clause-value g c = λ x loop s at only. c.in_ok-node.ensures.truth x loop only ∙ c.in_ok-firsts.ensures.firsts.values x loop s at
