use Rattle.std.proofs.Common.{◌≡◌, ◌+◌, ◌*◌, ◌^◌, ℕ, Bool, length}
use Rattle.std.specs.Prelude.{count_by}
use Rattle.gate_trait.specs.Built.{Keeps, AllIn}
use Rattle.gate_integers.specs.Numbers.{number}
use Rattle.gate_integers.proofs.counting.count.Given as goal

-- the bits so far and the column that is left are the count of the nodes
abbrev pub invariant-loop-place : goal.invariant-loop-place
invariant-loop-place g l =
    let value = g.G.Gates.node_value in
    record {
      keeps : Keeps g.G.Gates.belongs value l.initial.gates l.gates;
      belongs : AllIn (g.G.Gates.belongs l.gates) l.bits;
      width : length l.bits ≡ l._place;
      column_belongs : AllIn (g.G.Gates.belongs l.gates) l.column.items;
      sum : (x : ℕ → Bool) → number (value l.gates x) l.bits + 2 ^ l._place * count_by (value l.gates x) l.column.items ≡ count_by (value l.initial.gates x) l.nodes;
    }
