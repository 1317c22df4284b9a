use Rattle.std.proofs.Common.{◌≡◌, List, map, take}
use Rattle.gate_trait.specs.Built.{AllIn}
use Rattle.gate_numbers.proofs.integers.entry_nodes.Given as goal

abbrev pub invariant-loop-entry : goal.invariant-loop-entry
invariant-loop-entry g l =
    let belongs = g.G.Gates.belongs in
    record {
      belongs : AllIn (belongs l.gates) l.nodes;
      nodes : l.nodes ≡ map (λ e. e.node) (take l.entry-index l.entries);
    }
