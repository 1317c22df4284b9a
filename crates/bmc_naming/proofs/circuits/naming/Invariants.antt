use Rattle.std.proofs.Common.{◌≡◌, ◌≤◌, ℕ, Bool, length, drop}
use Rattle.gate_trait.specs.Built.{Keeps}
use Rattle.bound_naming.specs.Naming.{favours_all}
use Rattle.bmc_naming.proofs.circuits.naming.Given as goal

-- the lists from here to the end
abbrev pub invariant-loop-place : goal.invariant-loop-place
invariant-loop-place g l =
    let value = g.G.Gates.node_value in
    let belongs = g.G.Gates.belongs in
    record {
      keeps : Keeps belongs value l.initial.gates l.gates;
      inside : l.place ≤ length l.all;
      there : belongs l.gates l.node;
      gives : (x : ℕ → Bool) → value l.gates x l.node ≡ favours_all x (drop l.place l.all);
    }

abbrev pub decreases-loop-place : goal.decreases-loop-place
decreases-loop-place g l = l.place
