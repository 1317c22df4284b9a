use Rattle.gate_operators.proofs.SetLaws.{closure_law}
use Rattle.gate_operators.proofs.unary.closed_below.Goals as goal

pub returns-clause-means : goal.returns-clause-means
returns-clause-means g c = λ x. closure_law (g.G.Gates.node_value c.args.gates.now x) (g.G.Gates.node_value c.closure.new.gates x) c.args.a.now c.in_ok-made.made (c.in_ok-made.ensures.truth x)
