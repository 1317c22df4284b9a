use Rattle.std.proofs.Common.{arith}
use Rattle.gate_integers.proofs.Finals.{count_more}
use Rattle.gate_integers.proofs.Columns.{count_past}
use Rattle.gate_integers.proofs.counting.node_or_false.Goals as goal

pub returns-then-place-nodes-clause-counts : goal.returns-then-place-nodes-clause-counts
returns-then-place-nodes-clause-counts g c = λ x. count_more (g.G.Gates.node_value c.args.gates.now x) c.args.nodes.now c.args.place _ (omega arith)

pub returns-else-place-nodes-clause-counts : goal.returns-else-place-nodes-clause-counts
returns-else-place-nodes-clause-counts g c = λ x. count_past (g.G.Gates.node_value c.args.gates.now x) c.args.nodes.now c.args.place _ (omega arith) (c.constant.ensures.gives x)
