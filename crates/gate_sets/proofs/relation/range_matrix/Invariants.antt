use Rattle.std.proofs.Common.{◌≡◌, ℕ, Bool}
use Rattle.gate_matrix.specs.Matrices.{AllBelong}
use Rattle.gate_operators.specs.Sets.{MeansSet}
use Rattle.gate_sets.specs.Sets.{from_to}
use Rattle.gate_sets.proofs.relation.range_matrix.Given as goal

abbrev pub invariant-loop-atom : goal.invariant-loop-atom
invariant-loop-atom g l =
    let belongs = g.G.Gates.belongs in
    let value = g.G.Gates.node_value in
    record {
      belong : AllBelong (belongs l.gates) l.matrix.entries;
      columns : l.matrix.arity ≡ 1;
      means : (x : ℕ → Bool) → MeansSet (value l.gates x) l.matrix (from_to l.first l.atom);
    }
