use Rattle.std.proofs.Common.{◌≡◌, ◌<◌, ℕ, Bool, length, ◌-◌, ◌≤◌, All, Contains}
use Rattle.gate_temporal.specs.Rows.{row_value}
use Rattle.gate_trait.specs.declared.node.Node.{Node}
use Rattle.gate_temporal.proofs.future.reversed.Given as goal

-- the last nodes so far
abbrev pub invariant-loop-rest : goal.invariant-loop-rest
invariant-loop-rest l = record {
  inside : l.rest ≤ length l.nodes;
  long : length l.row ≡ length l.nodes - l.rest;
  same : All (λ n. Contains l.nodes n) l.row;
  values : (value : Node → Bool) (i : ℕ) → i < length l.nodes - l.rest → row_value value l.row i ≡ row_value value l.nodes (length l.nodes - i - 1);
}

abbrev pub decreases-loop-rest : goal.decreases-loop-rest
decreases-loop-rest l = l.rest
