use Rattle.std.proofs.Common.{◌≡◌, ◌∙◌, ap, length, List}
use Rattle.gate_trait.specs.declared.node.Node.{Node}
use Rattle.bmc_stack.proofs.RowLaws.{constant_is, length_same}
use Rattle.bmc_stack.proofs.windows.constantly.Goals as goal

pub returns-clause-values : goal.returns-clause-values
returns-clause-values g c = constant_is (g.G.Gates.node_value c.args.gates.now) c.args.count c.args.value c.constant-node.result c.in_ok-row.row c.in_ok-row.ensures.nodes (ap (λ (r : List Node). length r) c.in_ok-row.ensures.nodes ∙ length_same c.args.count c.constant-node.result) c.constant-node.ensures.gives
