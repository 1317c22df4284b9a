use Rattle.gate_trait.specs.Built.{AllIn}
use Rattle.bmc_encoder.proofs.RootLaws.{FirstsTo}
use Rattle.bmc_encoder.proofs.roots.beginnings.Given as goal

abbrev pub invariant-loop-number : goal.invariant-loop-number
invariant-loop-number g l =
    let belongs = g.G.Gates.belongs in
    let value = g.G.Gates.node_value in
    record {
      belong : AllIn (belongs l.gates) l.firsts;
      firsts : FirstsTo (value l.gates) l.frame.windows.items l.all l.firsts l.number;
    }
