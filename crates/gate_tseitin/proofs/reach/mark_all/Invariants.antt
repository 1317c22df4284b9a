use Rattle.std.proofs.Common.{Bool, List, take, All}
use Rattle.gate_tseitin.specs.Reached.{HasMark, Grows}
use Rattle.gate_tseitin.proofs.reach.mark_all.Given as goal

-- the nodes so far are marked
abbrev pub invariant-loop-node : goal.invariant-loop-node
invariant-loop-node l = record {
  grows : Grows l.initial.marks l.marks;
  marked : All (λ n. HasMark l.marks n) (take l.node-index l.nodes);
  fewest : (other : List Bool) → All (HasMark other) l.nodes → Grows l.initial.marks other → Grows l.marks other;
}
