use Rattle.std.proofs.Common.{◌≤◌, ◌+◌, ◌-◌, length, drop}
use Rattle.gate_matrix.proofs.MergeLaw.{Merging}
use Rattle.gate_matrix.proofs.merge.merge.Given as goal

abbrev pub invariant-loop-i : goal.invariant-loop-i
invariant-loop-i g l = record {
  first_place : l.i ≤ length l.a;
  second_place : l.j ≤ length l.b;
  merging : Merging g.G.Gates.belongs g.G.Gates.node_value l.arity l.rule l.initial.gates l.gates l.a l.b l.all.items (drop l.i l.a) (drop l.j l.b);
}

abbrev pub decreases-loop-i : goal.decreases-loop-i
decreases-loop-i g l = (length l.a - l.i) + (length l.b - l.j)
