use Rattle.std.proofs.Common.{◌≡◌, ◌+◌, ℕ, Some, length, slice_get}
use Rattle.gate_trait.specs.declared.node.Node.{Node}
use Rattle.gate_trait.specs.Built.{Keeps, AllIn}
use Rattle.bmc_leaves.specs.Loops.{AreChoices}
use Rattle.bmc_encoder.proofs.RootLaws.{SaysUpTo}
use Rattle.bmc_encoder.proofs.roots.add_roots.Given as goal

abbrev pub invariant-loop-place : goal.invariant-loop-place
invariant-loop-place g l =
    let value = g.G.Gates.node_value in
    let belongs = g.G.Gates.belongs in
    record {
      keeps : Keeps belongs value l.initial.gates l.gates;
      belong : AllIn (belongs l.gates) l.roots;
      count : length l.roots ≡ length l.initial.roots + l.place;
      kept : (k : ℕ) (n : Node) → slice_get l.initial.roots k ≡ Some n → slice_get l.roots k ≡ Some n;
      says : AreChoices (value l.initial.gates) l.bounds.states l.table.loops l.choices → SaysUpTo (value l.gates) l.bounds l.table l.target.scopes l.target.formulas (length l.initial.roots) l.place l.roots;
    }
