use Rattle.gate_trait.specs.Built.{AllIn}
use Rattle.bmc_stack.proofs.RowLaws.{SpreadTo}
use Rattle.bmc_stack.proofs.windows.spread.Given as goal

abbrev pub invariant-loop-number : goal.invariant-loop-number
invariant-loop-number g l =
    let belongs = g.G.Gates.belongs in
    record {
      belongs : AllIn (belongs l.gates) l.new;
      spread : SpreadTo (g.G.Gates.node_value l.gates) l.row l.places l.new l.number;
    }
