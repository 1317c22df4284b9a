use Rattle.gate_matrix.specs.Matrices.{AllBelong}
use Rattle.gate_numbers.proofs.values.matrix_of.Given as goal

abbrev pub invariant-loop-node : goal.invariant-loop-node
invariant-loop-node g l =
    let belongs = g.G.Gates.belongs in
    AllBelong (belongs l.gates) l.matrix.entries
