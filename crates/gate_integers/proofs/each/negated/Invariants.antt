use Rattle.std.proofs.Common.{length, ◌≡◌, ℕ, Bool, not, map, take}
use Rattle.gate_trait.specs.Built.{AllIn}
use Rattle.gate_integers.proofs.each.negated.Given as goal

-- the bits so far belong and are the negations
abbrev pub invariant-loop-node : goal.invariant-loop-node
invariant-loop-node g l =
    let value = g.G.Gates.node_value in
    record {
      belongs : AllIn (g.G.Gates.belongs l.gates) l.bits;
      width : length l.bits ≡ l.node-index;
      values : (x : ℕ → Bool) → map (value l.gates x) l.bits ≡ map (λ n. not (value l.gates x n)) (take l.node-index l.a);
    }
