use Rattle.std.proofs.Common.{◌≡◌, ◌↔◌, ℕ, Bool, true}
use Rattle.gate_trait.specs.Built.{Keeps}
use Rattle.bmc_leaves.specs.Table.{IsEver}
use Rattle.bmc_leaves.proofs.scopes.ever.Given as goal

-- the states so far
abbrev pub invariant-loop-state : goal.invariant-loop-state
invariant-loop-state g l =
    let belongs = g.G.Gates.belongs in
    let value = g.G.Gates.node_value in
    record {
      keeps : Keeps belongs value l.initial.gates l.gates;
      there : belongs l.gates l.any;
      ever : (x : ℕ → Bool) → (value l.gates x l.any ≡ true) ↔ IsEver x l.fixed l.cells l.state l.place;
    }
