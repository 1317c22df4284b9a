use Rattle.std.proofs.Common.{◌≡◌, replicate}
use Rattle.gate_trait.specs.Built.{AllIn}
use Rattle.bmc_stack.proofs.windows.everywhere.Given as goal

abbrev pub invariant-loop-place : goal.invariant-loop-place
invariant-loop-place g l =
    let belongs = g.G.Gates.belongs in
    record {
      belongs : AllIn (belongs l.gates) l.row;
      nodes : l.row ≡ replicate l._place l.node;
    }
