use Rattle.std.proofs.Common.{◌≡◌, ◌<◌, ℕ, Bool, length}
use Rattle.gate_trait.specs.Built.{AllIn}
use Rattle.gate_temporal.specs.Rows.{row_value}
use Rattle.bmc_places.specs.RoundRows.{TellsNext}
use Rattle.bmc_places.proofs.round_rows.row_after.Given as goal

abbrev pub invariant-loop-place : goal.invariant-loop-place
invariant-loop-place g l =
    let belongs = g.G.Gates.belongs in
    let value = g.G.Gates.node_value in
    record {
      belong : AllIn (belongs l.gates) l.new;
      long : length l.new ≡ l.place;
      tells : (x : ℕ → Bool) (i : ℕ) → i < l.place → TellsNext (value l.gates x) l.places l.row l.back i (row_value (value l.gates x) l.new i);
    }
