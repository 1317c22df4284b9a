use Rattle.std.proofs.Common.{◌≡◌, ℕ, Bool, take, nat_lt}
use Rattle.gate_trait.specs.Built.{Keeps}
use Rattle.gate_integers.specs.Numbers.{number}
use Rattle.gate_integers.proofs.compare.less_below.Given as goal

-- the node says whether the bits so far are less
abbrev pub invariant-loop-i : goal.invariant-loop-i
invariant-loop-i g l =
    let value = g.G.Gates.node_value in
    record {
      keeps : Keeps g.G.Gates.belongs value l.initial.gates l.gates;
      belongs : g.G.Gates.belongs l.gates l.less;
      less : (x : ℕ → Bool) → value l.gates x l.less ≡ nat_lt (number (value l.initial.gates x) (take l.i l.a)) (number (value l.initial.gates x) (take l.i l.b));
    }
