use Rattle.std.proofs.Common.{◌≡◌, ◌↔◌, ◌<◌, ℕ, Bool, true, length}
use Rattle.gate_trait.specs.Built.{Keeps, AllIn}
use Rattle.gate_temporal.specs.Rows.{row_value}
use Rattle.bmc_leaves.specs.Table.{IsEver}
use Rattle.bmc_leaves.proofs.scopes.ever_nodes.Given as goal

-- the places so far
abbrev pub invariant-loop-place : goal.invariant-loop-place
invariant-loop-place g l =
    let belongs = g.G.Gates.belongs in
    let value = g.G.Gates.node_value in
    record {
      keeps : Keeps belongs value l.initial.gates l.gates;
      there : AllIn (belongs l.gates) l.row;
      long : length l.row ≡ l.place;
      ever : (x : ℕ → Bool) (j : ℕ) → j < l.place → (row_value (value l.gates x) l.row j ≡ true) ↔ IsEver x l.fixed l.cells l.states j;
    }
