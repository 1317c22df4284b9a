use Rattle.std.proofs.Common.{◌≡◌, ◌<◌, ℕ, Bool, Contains}
use Rattle.gate_trait.specs.declared.node.Node.{Node}
use Rattle.gate_temporal.specs.Rows.{row_value}
use Rattle.gate_temporal.proofs.loops.common.Given as goal

-- the nodes so far are the first one
abbrev pub invariant-loop-place : goal.invariant-loop-place
invariant-loop-place l = record {
  there : Contains l.values l.first;
  same : (value : Node → Bool) (k : ℕ) → k < l.place → row_value value l.values k ≡ value l.first;
}
