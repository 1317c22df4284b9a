use Rattle.gate_trait.specs.Built.{AllIn}
use Rattle.bmc_places.proofs.RoundLaws.{BacksTo}
use Rattle.bmc_places.proofs.round_rows.backs_of.Given as goal

abbrev pub invariant-loop-number : goal.invariant-loop-number
invariant-loop-number g l =
    let belongs = g.G.Gates.belongs in
    let value = g.G.Gates.node_value in
    record {
      belong : AllIn (belongs l.gates) l.backs;
      backs : BacksTo (value l.gates) l.frame.windows.items l.row l.backs l.number;
    }
