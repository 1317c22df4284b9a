use Rattle.std.proofs.Common.{◌≡◌, ◌+◌, ◌*◌, ◌^◌, ℕ, Bool, take, length}
use Rattle.gate_trait.specs.Built.{Keeps, AllIn}
use Rattle.gate_integers.specs.Numbers.{number, bit}
use Rattle.gate_integers.proofs.adder.add_carried.Given as goal

-- the digits so far, with what is carried over, are the sum of the bits so far
abbrev pub invariant-loop-i : goal.invariant-loop-i
invariant-loop-i g l =
    let value = g.G.Gates.node_value in
    record {
      keeps : Keeps g.G.Gates.belongs value l.initial.gates l.gates;
      belongs : AllIn (g.G.Gates.belongs l.gates) l.total;
      carry : g.G.Gates.belongs l.gates l.over;
      width : length l.total ≡ l.i;
      sum : (x : ℕ → Bool) → number (value l.gates x) l.total + 2 ^ l.i * bit (value l.gates x l.over)
          ≡ number (value l.initial.gates x) (take l.i l.a) + number (value l.initial.gates x) (take l.i l.b) + bit (value l.initial.gates x l.fn.carry);
    }
