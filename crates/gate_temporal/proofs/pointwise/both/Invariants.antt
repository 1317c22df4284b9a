use Rattle.std.proofs.Common.{◌≡◌, ◌<◌, ℕ, Bool, length, ◌&&◌}
use Rattle.gate_trait.specs.Built.{Keeps, AllIn}
use Rattle.gate_temporal.specs.Rows.{row_value}
use Rattle.gate_temporal.proofs.pointwise.both.Given as goal

-- the places so far
abbrev pub invariant-loop-place : goal.invariant-loop-place
invariant-loop-place g l =
    let value = g.G.Gates.node_value in
    let belongs = g.G.Gates.belongs in
    record {
      keeps : Keeps belongs value l.initial.gates l.gates;
      there : AllIn (belongs l.gates) l.row;
      long : length l.row ≡ l.place;
      values : (x : ℕ → Bool) (i : ℕ) → i < l.place → row_value (value l.gates x) l.row i ≡ (row_value (value l.initial.gates x) l.f i && row_value (value l.initial.gates x) l.g i);
    }
