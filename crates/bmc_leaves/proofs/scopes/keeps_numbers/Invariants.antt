use Rattle.std.proofs.Common.{◌≡◌, ◌↔◌, ◌<◌, ℕ, Bool, true, Some, slice_get}
use Rattle.gate_trait.specs.Built.{Keeps}
use Rattle.core_meaning.specs.declared.scopes.SigScope.{SigScope}
use Rattle.core_meaning.specs.World.{World}
use Rattle.core_meaning.specs.Kept.{KeepsNumber}
use Rattle.bmc_leaves.specs.Table.{Decodes}
use Rattle.bmc_leaves.proofs.scopes.keeps_numbers.Given as goal

-- the sigs so far
abbrev pub invariant-loop-sig : goal.invariant-loop-sig
invariant-loop-sig g l =
    let belongs = g.G.Gates.belongs in
    let value = g.G.Gates.node_value in
    record {
      keeps : Keeps belongs value l.initial.gates l.gates;
      there : belongs l.gates l.all;
      kept : (x : ℕ → Bool) (w : World) → Decodes l.bounds l.layout x w.lasso → (value l.gates x l.all ≡ true) ↔ ((s : ℕ) (q : SigScope) → s < l.sig → slice_get l.numbers s ≡ Some q → KeepsNumber w s q);
    }
