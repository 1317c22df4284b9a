use Rattle.std.proofs.Common.{◌↔◌, ℕ, Bool, IsTrue}
use Rattle.gate_trait.specs.Built.{Keeps}
use Rattle.gate_temporal.specs.Rows.{row_value}
use Rattle.gate_temporal.specs.Rows.{IsOnlyOf, IsNoneOf}
use Rattle.gate_temporal.proofs.loops.only_one.Given as goal

-- the choices so far
abbrev pub invariant-loop-place : goal.invariant-loop-place
invariant-loop-place g l =
    let value = g.G.Gates.node_value in
    let belongs = g.G.Gates.belongs in
    record {
      keeps : Keeps belongs value l.initial.gates l.gates;
      one : belongs l.gates l.one;
      none : belongs l.gates l.none;
      says_one : (x : ℕ → Bool) → IsTrue (value l.gates x l.one) ↔ ((k : ℕ) × IsOnlyOf (row_value (value l.initial.gates x) l.choices) l.place k);
      says_none : (x : ℕ → Bool) → IsTrue (value l.gates x l.none) ↔ IsNoneOf (row_value (value l.initial.gates x) l.choices) l.place;
    }
