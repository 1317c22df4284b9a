use Rattle.std.proofs.Common.{◌≡◌, ◌<◌, ℕ, List, Some, slice_get}
use Rattle.core_tree.specs.declared.model.Sig.{Sig}
use Rattle.resolve_told_types.specs.Kinds.{kind_in}
use Rattle.resolve_told_types.specs.Steps.{IsLineStep}
use Rattle.resolve_told_types.proofs.lines.are_lines.Given as goal

abbrev pub invariant-loop-place : goal.invariant-loop-place
invariant-loop-place l = (s : ℕ) (x : Sig) → s < l.place → slice_get l.sigs s ≡ Some x → (line : List ℕ) → slice_get l.lines s ≡ Some line → IsLineStep l.lines s (kind_in x) line
