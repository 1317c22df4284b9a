use Rattle.std.proofs.Common.{◌≡◌, ◌+◌, ◌<◌, ℕ, Bool, length, nat_lt, get_or}
use Rattle.gate_trait.specs.Built.{Keeps, AllIn}
use Rattle.gate_trait.specs.declared.node.Node.{Node}
use Rattle.gate_integers.specs.Numbers.{bit}
use Rattle.gate_integers.specs.Counts.{Tells}
use Rattle.gate_integers.proofs.limit.count_one.Given as goal

-- the entries so far tell the new count, and `below` is the entry before the next
abbrev pub invariant-loop-entry : goal.invariant-loop-entry
invariant-loop-entry g l =
    let value = g.G.Gates.node_value in
    record {
      keeps : Keeps g.G.Gates.belongs value l.initial.gates l.gates;
      belongs : AllIn (g.G.Gates.belongs l.gates) l.next;
      entries : length l.next ≡ l.entry-index;
      below : g.G.Gates.belongs l.gates l.below;
      before : (x : ℕ → Bool) (c : ℕ) → Tells (value l.initial.gates x) l.row c → value l.gates x l.below ≡ nat_lt l.entry-index (c + 1);
      counted : (x : ℕ → Bool) (c : ℕ) → Tells (value l.initial.gates x) l.row c → (k : ℕ) (d : Node) → k < l.entry-index → value l.gates x (get_or l.next k d) ≡ nat_lt k (c + bit (value l.initial.gates x l.node));
    }
