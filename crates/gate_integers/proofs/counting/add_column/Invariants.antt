use Rattle.std.proofs.Common.{◌≡◌, ◌+◌, ◌-◌, ◌*◌, ℕ, Bool, take, length}
use Rattle.std.specs.Prelude.{count_by}
use Rattle.gate_trait.specs.Built.{Keeps, AllIn}
use Rattle.gate_integers.specs.Numbers.{bit}
use Rattle.gate_integers.proofs.counting.add_column.Given as goal

-- the bit and the carries so far are the count of the nodes so far
abbrev pub invariant-loop-place : goal.invariant-loop-place
invariant-loop-place g l =
    let value = g.G.Gates.node_value in
    record {
      keeps : Keeps g.G.Gates.belongs value l.initial.gates l.gates;
      bit_belongs : g.G.Gates.belongs l.gates l.bit;
      carries_belong : AllIn (g.G.Gates.belongs l.gates) l.carries.items;
      sum : (x : ℕ → Bool) → bit (value l.gates x l.bit) + 2 * count_by (value l.gates x) l.carries.items ≡ count_by (value l.initial.gates x) (take l.place l.nodes);
    }

abbrev pub decreases-loop-place : goal.decreases-loop-place
decreases-loop-place g l = length l.nodes - l.place
