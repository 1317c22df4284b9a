use Rattle.std.proofs.Common.{length, ◌≡◌, ℕ, Bool, false, map, replicate}
use Rattle.gate_trait.specs.Built.{AllIn}
use Rattle.gate_integers.proofs.each.zeros.Given as goal

-- the bits so far belong and are false
abbrev pub invariant-loop-bit : goal.invariant-loop-bit
invariant-loop-bit g l = record {
  belongs : AllIn (g.G.Gates.belongs l.gates) l.bits;
  width : length l.bits ≡ l._bit;
  values : (x : ℕ → Bool) → map (g.G.Gates.node_value l.gates x) l.bits ≡ replicate l._bit false;
}
