use Rattle.std.proofs.Common.{◌≡◌, ℕ, Bool, length}
use Rattle.gate_trait.specs.Built.{AllIn}
use Rattle.gate_integers.specs.Counts.{Tells}
use Rattle.gate_integers.proofs.limit.first_row.Given as goal

-- the entries so far are false
abbrev pub invariant-loop-entry : goal.invariant-loop-entry
invariant-loop-entry g l = record {
  belongs : AllIn (g.G.Gates.belongs l.gates) l.row;
  entries : length l.row ≡ l._entry;
  tells : (x : ℕ → Bool) → Tells (g.G.Gates.node_value l.gates x) l.row 0;
}
