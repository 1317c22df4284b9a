use Rattle.std.proofs.Common.{ℕ}
use Rattle.gate_trait.specs.Built.{Keeps, AllIn}
use Rattle.bmc_windows.specs.Frames.{IsFrame}
use Rattle.bmc_stack.proofs.WindowLaws.{AlongTo}
use Rattle.bmc_stack.proofs.windows.moving.Given as goal

abbrev pub invariant-loop-number : goal.invariant-loop-number
invariant-loop-number g l =
    let belongs = g.G.Gates.belongs in
    let value = g.G.Gates.node_value in
    record {
      keeps : Keeps belongs value l.initial.gates l.gates;
      belong : AllIn (belongs l.gates) l.row;
      along : (states rounds : ℕ) → IsFrame states rounds l.frame → AlongTo l.op (value l.initial.gates) (value l.gates) states rounds l.frame l.f l.g l.row l.number;
    }
