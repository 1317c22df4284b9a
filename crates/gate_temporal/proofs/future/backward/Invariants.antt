use Rattle.std.proofs.Common.{◌≡◌, ◌<◌, ℕ, Bool, length, ◌+◌, ◌-◌, ◌≤◌}
use Rattle.gate_trait.specs.Built.{Keeps, AllIn}
use Rattle.gate_temporal.specs.Rows.{row_value}
use Rattle.gate_temporal.specs.Times.{until_to}
use Rattle.gate_temporal.proofs.future.backward.Given as goal

-- the places from here to the end, the last first
abbrev pub invariant-loop-place : goal.invariant-loop-place
invariant-loop-place g l =
    let value = g.G.Gates.node_value in
    let belongs = g.G.Gates.belongs in
    record {
      keeps : Keeps belongs value l.initial.gates l.gates;
      there : AllIn (belongs l.gates) l.row;
      next : belongs l.gates l.next;
      inside : l.place ≤ length l.f;
      from : l.fn.from ≤ l.place;
      long : length l.row ≡ length l.f - l.place;
      here : (x : ℕ → Bool) → value l.gates x l.next ≡ until_to (row_value (value l.initial.gates x) l.f) (row_value (value l.initial.gates x) l.g) (value l.initial.gates x l.fn.last) (length l.f - l.place) l.place;
      values : (x : ℕ → Bool) (k : ℕ) → k < length l.f - l.place → row_value (value l.gates x) l.row k ≡ until_to (row_value (value l.initial.gates x) l.f) (row_value (value l.initial.gates x) l.g) (value l.initial.gates x l.fn.last) (k + 1) (length l.f - k - 1);
    }

abbrev pub decreases-loop-place : goal.decreases-loop-place
decreases-loop-place g l = l.place
