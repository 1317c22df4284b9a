use Rattle.std.proofs.Common.{◌∙◌, ap, sym, Some, arith}
use Rattle.bmc_places.proofs.ChosenLaws.{node_same}
use Rattle.bmc_places.proofs.choosing.node_same_at.Goals as goal

pub returns-then-first-second : goal.returns-then-first-second
returns-then-first-second c = λ t. c.node-left.ensures ∙ ap Some (node_same c.node-left.result c.node-right.result (omega (arith, c.if-first-second.true))) ∙ sym c.node-right.ensures
