use Rattle.gate_trait.specs.Built.{AllIn}
use Rattle.bmc_stack.specs.Rows.{IsPart}
use Rattle.bmc_stack.proofs.windows.part.Given as goal

abbrev pub invariant-loop-place : goal.invariant-loop-place
invariant-loop-place g l =
    let belongs = g.G.Gates.belongs in
    record {
      belongs : AllIn (belongs l.gates) l.new;
      part : IsPart (g.G.Gates.node_value l.gates) l.row l.from l.place l.new;
    }
