use Rattle.std.proofs.Common.{◌≡◌, ◌<◌, ℕ, Some, slice_get}
use Rattle.core_tree.specs.declared.model.Sig.{Sig}
use Rattle.resolve_types.specs.declared.columns.Columns.{Columns}
use Rattle.resolve_told_types.specs.Kinds.{kind_in}
use Rattle.resolve_told_types.specs.Steps.{IsTypeStep}
use Rattle.resolve_told_types.proofs.types.are_types_by.Given as goal

abbrev pub invariant-loop-place : goal.invariant-loop-place
invariant-loop-place l = (s : ℕ) (x : Sig) → s < l.place → slice_get l.sigs s ≡ Some x → (c : Columns) → slice_get l.types s ≡ Some c → IsTypeStep l.types l.ranks s (kind_in x) c
