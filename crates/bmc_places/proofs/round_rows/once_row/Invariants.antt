use Rattle.std.proofs.Common.{ℕ}
use Rattle.gate_trait.specs.Built.{Keeps, AllIn}
use Rattle.bmc_windows.specs.Frames.{IsFrame}
use Rattle.bmc_places.proofs.RoundLaws.{TellsTo, OnceAt}
use Rattle.bmc_places.proofs.round_rows.once_row.Given as goal

abbrev pub invariant-loop-number : goal.invariant-loop-number
invariant-loop-number g l =
    let belongs = g.G.Gates.belongs in
    let value = g.G.Gates.node_value in
    record {
      keeps : Keeps belongs value l.initial.gates l.gates;
      belong : AllIn (belongs l.gates) l.row;
      once : (states rounds : ℕ) → IsFrame states rounds l.frame → TellsTo (value l.gates) (OnceAt (value l.initial.gates) l.f l.g) states rounds l.frame l.row l.number;
    }
