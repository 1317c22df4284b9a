use Rattle.std.proofs.Common.{◌≡◌, ℕ, Bool, take, map}
use Rattle.gate_trait.specs.Built.{Keeps}
use Rattle.gate_integers.specs.Counts.{all_alike}
use Rattle.gate_integers.proofs.compare.equal_bits.Given as goal

-- the node says whether the bits so far are alike
abbrev pub invariant-loop-i : goal.invariant-loop-i
invariant-loop-i g l =
    let value = g.G.Gates.node_value in
    record {
      keeps : Keeps g.G.Gates.belongs value l.initial.gates l.gates;
      belongs : g.G.Gates.belongs l.gates l.equal;
      equal : (x : ℕ → Bool) → value l.gates x l.equal ≡ all_alike (map (value l.initial.gates x) (take l.i l.left)) (map (value l.initial.gates x) (take l.i l.right));
    }
