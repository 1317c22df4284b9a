use Rattle.std.proofs.Common.{◌≡◌, ℕ, Bool, take, nat_lt}
use Rattle.gate_trait.specs.Built.{Keeps}
use Rattle.gate_integers.specs.Numbers.{number}
use Rattle.gate_integers.proofs.each.any_bit.Given as goal

-- the node says whether some bit so far is true
abbrev pub invariant-loop-node : goal.invariant-loop-node
invariant-loop-node g l =
    let value = g.G.Gates.node_value in
    record {
      keeps : Keeps g.G.Gates.belongs value l.initial.gates l.gates;
      belongs : g.G.Gates.belongs l.gates l.some;
      value : (x : ℕ → Bool) → value l.gates x l.some ≡ nat_lt 0 (number (value l.initial.gates x) (take l.node-index l.a));
    }
