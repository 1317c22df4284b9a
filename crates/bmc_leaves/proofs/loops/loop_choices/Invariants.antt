use Rattle.std.proofs.Common.{◌≡◌, ◌<◌, ◌+◌, ℕ, Bool, length}
use Rattle.gate_trait.specs.Built.{Keeps, AllIn}
use Rattle.gate_temporal.specs.Rows.{row_value}
use Rattle.bmc_leaves.proofs.loops.loop_choices.Given as goal

-- the states so far
abbrev pub invariant-loop-state : goal.invariant-loop-state
invariant-loop-state g l =
    let value = g.G.Gates.node_value in
    let belongs = g.G.Gates.belongs in
    record {
      keeps : Keeps belongs value l.initial.gates l.gates;
      there : AllIn (belongs l.gates) l.row;
      long : length l.row ≡ l.state;
      values : (x : ℕ → Bool) (i : ℕ) → i < l.state → row_value (value l.gates x) l.row i ≡ x (l.loops + i);
    }
