use Rattle.std.proofs.Common.{length, ◌≡◌, ◌+◌, ◌*◌, ◌^◌, ℕ, Bool}
use Rattle.gate_trait.specs.Built.{AllIn}
use Rattle.gate_integers.specs.Numbers.{number}
use Rattle.bmc_places.proofs.numbers.number_bits.Given as goal

-- the bits so far, and what is left
abbrev pub invariant-loop-bit : goal.invariant-loop-bit
invariant-loop-bit g l = record {
  belong : AllIn (g.G.Gates.belongs l.gates) l.bits;
  width : length l.bits ≡ l._bit;
  sum : (x : ℕ → Bool) → number (g.G.Gates.node_value l.gates x) l.bits + 2 ^ l._bit * l.left ≡ l.low;
}
