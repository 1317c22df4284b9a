use Rattle.std.proofs.Common.{◌≡◌, ℕ, Bool, length, take}
use Rattle.std.specs.Prelude.{count_by}
use Rattle.gate_trait.specs.Built.{Keeps, AllIn}
use Rattle.gate_integers.specs.Counts.{Tells}
use Rattle.gate_integers.proofs.limit.last_row.Given as goal

-- the row tells the count of the nodes so far
abbrev pub invariant-loop-node : goal.invariant-loop-node
invariant-loop-node g l =
    let value = g.G.Gates.node_value in
    record {
      keeps : Keeps g.G.Gates.belongs value l.initial.gates l.gates;
      belongs : AllIn (g.G.Gates.belongs l.gates) l.row;
      entries : length l.row ≡ l.fn.entries;
      tells : (x : ℕ → Bool) → Tells (value l.gates x) l.row (count_by (value l.initial.gates x) (take l.node-index l.nodes));
    }
