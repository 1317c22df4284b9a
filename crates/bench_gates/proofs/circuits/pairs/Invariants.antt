use Rattle.std.proofs.Common.{◌≡◌}
use Rattle.gate_trait.specs.declared.node.Node.{Node}
use Rattle.gate_trait.specs.Circuit.{BelongsTo}
use Rattle.gate_matrix.specs.Matrices.{AllBelong}
use Rattle.gate_closure.specs.Walks.{IsBelow}
use Rattle.bench_gates.proofs.circuits.pairs.Given as goal

-- the nodes of the pairs so far belong, and older nodes still do
abbrev pub invariant-loop-from : goal.invariant-loop-from
invariant-loop-from l = record {
  columns : l.matrix.arity ≡ 2;
  below : IsBelow l.atoms l.matrix;
  belong : AllBelong (BelongsTo l.store) l.matrix.entries;
  keeps : (n : Node) → BelongsTo l.fn.store n → BelongsTo l.store n;
}

abbrev pub invariant-loop-step : goal.invariant-loop-step
invariant-loop-step l = record {
  columns : l.matrix.arity ≡ 2;
  below : IsBelow l.atoms l.matrix;
  belong : AllBelong (BelongsTo l.store) l.matrix.entries;
  keeps : (n : Node) → BelongsTo l.fn.store n → BelongsTo l.store n;
}
