use Rattle.gate_operators.proofs.SetLaws.{turned_law}
use Rattle.gate_operators.proofs.unary.transposed.Goals as goal

pub returns-clause-means : goal.returns-clause-means
returns-clause-means g c = λ x. turned_law (g.G.Gates.node_value c.args.gates.now x) (g.G.Gates.node_value c.transpose.new.gates x) c.args.a.now c.in_ok-made.made (c.in_ok-made.ensures.truth x)
