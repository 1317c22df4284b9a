use Rattle.gate_matrix.proofs.merge.add_kept.Goals as goal

pub returns-clause-added : goal.returns-clause-added
returns-clause-added g c = record { node = c.in_ok-node.node; computes = c.in_ok-node.ensures.ok; is = c.in_ok-add_some.ensures }
