use Rattle.std.proofs.Common.{◌≡◌, ◌+◌, ◌*◌, ◌^◌, Bool, take, length}
use Rattle.gate_trait.specs.declared.node.Node.{Node}
use Rattle.gate_trait.specs.Built.{AllIn}
use Rattle.gate_integers.specs.Numbers.{number, bit}
use Rattle.gate_integers.proofs.product.shifted_in.Given as goal

-- the bits so far and the next are the doubled low bits
abbrev pub invariant-loop-node : goal.invariant-loop-node
invariant-loop-node g l = record {
  belongs : AllIn (g.G.Gates.belongs l.gates) l.bits;
  next_belongs : g.G.Gates.belongs l.gates l.next;
  width : length l.bits ≡ l.node-index;
  number : (v : Node → Bool) → number v l.bits + 2 ^ l.node-index * bit (v l.next) ≡ bit (v l.fn.low) + 2 * number v (take l.node-index l.a);
}
