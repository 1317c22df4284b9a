use Rattle.std.proofs.Common.{◌≡◌, ◌<◌, ℕ, Bool, length, ◌+◌, All, Contains}
use Rattle.gate_temporal.specs.Rows.{row_value}
use Rattle.gate_trait.specs.declared.node.Node.{Node}
use Rattle.gate_temporal.proofs.shifts.after.Given as goal

-- the nodes so far
abbrev pub invariant-loop-place : goal.invariant-loop-place
invariant-loop-place l = record {
  long : length l.row + 1 ≡ l.place;
  same : All (λ n. Contains l.f n) l.row;
  values : (value : Node → Bool) (i : ℕ) → i < length l.row → row_value value l.row i ≡ row_value value l.f (i + 1);
}
