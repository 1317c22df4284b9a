use Rattle.gate_trait.specs.Built.{Keeps, AllIn}
use Rattle.gate_numbers.proofs.values.place_nodes.Given as goal

abbrev pub invariant-loop-done : goal.invariant-loop-done
invariant-loop-done g l =
    let belongs = g.G.Gates.belongs in
    let value = g.G.Gates.node_value in
    record {
      keeps : Keeps belongs value l.initial.gates l.gates;
      belong : AllIn (belongs l.gates) l.nodes;
    }
