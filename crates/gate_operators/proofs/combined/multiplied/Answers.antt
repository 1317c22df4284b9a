use Rattle.gate_operators.proofs.SetLaws.{product_law}
use Rattle.gate_operators.proofs.combined.multiplied.Goals as goal

pub returns-clause-means : goal.returns-clause-means
returns-clause-means g c = λ x. product_law (g.G.Gates.node_value c.args.gates.now x) (g.G.Gates.node_value c.product.new.gates x) c.args.a.now c.args.b.now c.in_ok-made.made (c.in_ok-made.ensures.truth x)
