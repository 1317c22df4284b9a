use Rattle.gate_trait.specs.Built.{Keeps, AllIn}
use Rattle.bmc_places.proofs.NumberLaws.{ComparedTo}
use Rattle.bmc_places.proofs.numbers.compared_row.Given as goal

abbrev pub invariant-loop-place : goal.invariant-loop-place
invariant-loop-place g l =
    let belongs = g.G.Gates.belongs in
    let value = g.G.Gates.node_value in
    record {
      keeps : Keeps belongs value l.initial.gates l.gates;
      belong : AllIn (belongs l.gates) l.row;
      compared : ComparedTo l.op (value l.initial.gates) (value l.gates) l.store.integers.items l.a l.b l.place l.row;
    }
