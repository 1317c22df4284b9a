use Rattle.std.proofs.Common.{◌≡◌, ◌≤◌, ◌+◌, ◌*◌, ◌^◌, ℕ, Bool, length}
use Rattle.gate_trait.specs.Built.{AllIn}
use Rattle.gate_integers.specs.Numbers.{number, bit}
use Rattle.gate_arithmetic.proofs.members.weighted.Given as goal

-- the bits so far and what is left are the amount
abbrev pub invariant-loop-place : goal.invariant-loop-place
invariant-loop-place g l =
    let value = g.G.Gates.node_value in
    record {
      belongs : AllIn (g.G.Gates.belongs l.gates) l.bits;
      width : length l.bits ≡ l._place;
      left : l.rest * 2 ^ l._place ≤ l.amount;
      means : (x : ℕ → Bool) → number (value l.gates x) l.bits + 2 ^ l._place * (bit (value l.gates x l.node) * l.rest) ≡ bit (value l.gates x l.node) * l.amount;
    }
