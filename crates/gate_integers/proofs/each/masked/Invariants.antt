use Rattle.std.proofs.Common.{length, ◌≡◌, ◌&&◌, ℕ, Bool, map, take}
use Rattle.gate_trait.specs.Built.{Keeps, AllIn}
use Rattle.gate_integers.proofs.each.masked.Given as goal

-- the bits so far belong and are masked by the condition
abbrev pub invariant-loop-node : goal.invariant-loop-node
invariant-loop-node g l =
    let value = g.G.Gates.node_value in
    record {
      keeps : Keeps g.G.Gates.belongs value l.initial.gates l.gates;
      belongs : AllIn (g.G.Gates.belongs l.gates) l.bits;
      width : length l.bits ≡ l.node-index;
      values : (x : ℕ → Bool) → map (value l.gates x) l.bits ≡ map (λ n. value l.initial.gates x l.condition && value l.initial.gates x n) (take l.node-index l.a);
    }
