use Rattle.std.proofs.Common.{◌≡◌, ◌<◌, ℕ, suc, Bool, length}
use Rattle.gate_trait.specs.Built.{Keeps, AllIn}
use Rattle.gate_temporal.specs.Rows.{row_value}
use Rattle.gate_temporal.specs.Times.{since_to}
use Rattle.gate_temporal.proofs.past.since.Given as goal

-- the places so far, and the value that the next place looks back to
abbrev pub invariant-loop-place : goal.invariant-loop-place
invariant-loop-place g l =
    let value = g.G.Gates.node_value in
    let belongs = g.G.Gates.belongs in
    record {
      keeps : Keeps belongs value l.initial.gates l.gates;
      there : AllIn (belongs l.gates) l.row;
      last : belongs l.gates l.last;
      long : length l.row ≡ l.place;
      before : (x : ℕ → Bool) → value l.gates x l.last ≡ since_to (row_value (value l.initial.gates x) l.f) (row_value (value l.initial.gates x) l.g) l.place;
      values : (x : ℕ → Bool) (i : ℕ) → i < l.place → row_value (value l.gates x) l.row i ≡ since_to (row_value (value l.initial.gates x) l.f) (row_value (value l.initial.gates x) l.g) (suc i);
    }
