use Rattle.gate_matrix.specs.declared.merge.Rule.TheVariants.{Union}
use Rattle.gate_matrix.proofs.MergeLaw.{merged_made, arity_as}
use Rattle.gate_matrix.proofs.merge.union.Goals as goal

pub returns-clause-arity : goal.returns-clause-arity
returns-clause-arity g c = arity_as c.merge.result c.arity.result c.args.a.now.arity c.arity.ensures.columns c.merge.ensures.arity

pub returns-clause-truth : goal.returns-clause-truth
returns-clause-truth g c =
    let value = g.G.Gates.node_value in
    merged_made c.merge.result (value c.merge.new.gates) (value c.args.gates.now) Union c.args.a.now c.args.b.now c.entries.result.now c.entries-2.result.now c.entries.ensures.all c.entries-2.ensures.all c.entries.ensures.matrix c.entries-2.ensures.matrix c.merge.ensures.truth
