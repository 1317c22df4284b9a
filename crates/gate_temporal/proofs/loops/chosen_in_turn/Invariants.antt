use Rattle.std.proofs.Common.{◌≡◌, ◌<◌, ℕ, Bool}
use Rattle.gate_trait.specs.Built.{Keeps}
use Rattle.gate_temporal.specs.Rows.{row_value, IsOnly}
use Rattle.gate_temporal.proofs.loops.chosen_in_turn.Given as goal

-- the choices so far
abbrev pub invariant-loop-place : goal.invariant-loop-place
invariant-loop-place g l =
    let value = g.G.Gates.node_value in
    let belongs = g.G.Gates.belongs in
    record {
      keeps : Keeps belongs value l.initial.gates l.gates;
      there : belongs l.gates l.answer;
      gives : (x : ℕ → Bool) (k : ℕ) → IsOnly (value l.initial.gates x) l.choices k → k < l.place → value l.gates x l.answer ≡ row_value (value l.initial.gates x) l.values k;
    }
