use Rattle.std.proofs.Common.{◌≡◌, ◌&&◌, ℕ, Bool, List, All}
use Rattle.gate_trait.specs.Circuit.{value_among}
use Rattle.gate_tseitin.specs.Reached.{HasMark}
use Rattle.gate_tseitin.specs.Shown.{AreComputed, IsOperand, all_nodes}
use Rattle.gate_tseitin.proofs.leaves.leaves_below.Given as goal

-- the leaves so far and the operands that wait have the conjunction of all
abbrev pub invariant-loop-turn : goal.invariant-loop-turn
invariant-loop-turn l = record {
  waiting : All (IsOperand l.marks l.kept) l.waiting.items;
  kept : All (HasMark l.kept) l.leaves.items;
  value : (v : ℕ → Bool) (vs : List Bool) → AreComputed l.store l.kept v vs → (all_nodes vs l.leaves.items && all_nodes vs l.waiting.items) ≡ (value_among vs l.fn.a && value_among vs l.fn.b);
}
