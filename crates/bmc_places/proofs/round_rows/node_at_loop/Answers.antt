use Rattle.std.proofs.Common.{◌∙◌}
use Rattle.bmc_places.proofs.round_rows.node_at_loop.Goals as goal

pub returns-clause-value : goal.returns-clause-value
returns-clause-value g c = λ x s chosen. c.in_ok-node.ensures.truth x chosen.0 chosen.1 ∙ c.in_ok-backs.ensures.backs.values x chosen.0 s chosen.2
