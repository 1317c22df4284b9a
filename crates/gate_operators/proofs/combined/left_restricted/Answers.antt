use Rattle.gate_operators.proofs.SetLaws.{left_law}
use Rattle.gate_operators.proofs.combined.left_restricted.Goals as goal

pub returns-clause-means : goal.returns-clause-means
returns-clause-means g c = λ x. left_law (g.G.Gates.node_value c.args.gates.now x) (g.G.Gates.node_value c.left_restrict.new.gates x) c.args.a.now c.args.b.now c.in_ok-made.made (c.in_ok-made.ensures.truth x)
