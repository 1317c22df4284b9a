use Rattle.gate_matrix.specs.declared.merge.Rule.TheVariants.{Exclusive}
use Rattle.gate_matrix.proofs.MergeLaw.{merged_made}
use Rattle.gate_matrix.proofs.merge.exclusive.Goals as goal

pub returns-clause-truth : goal.returns-clause-truth
returns-clause-truth g c =
    let value = g.G.Gates.node_value in
    merged_made c.merge.result (value c.merge.new.gates) (value c.args.gates.now) Exclusive c.args.a.now c.args.b.now c.entries.result.now c.entries-2.result.now c.entries.ensures.all c.entries-2.ensures.all c.entries.ensures.matrix c.entries-2.ensures.matrix c.merge.ensures.truth
