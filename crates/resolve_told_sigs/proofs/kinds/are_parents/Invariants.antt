use Rattle.std.proofs.Common.{◌≡◌, ◌<◌, ℕ, Some, slice_get}
use Rattle.syntax_tree.specs.declared.module.SigName.{SigName}
use Rattle.core_tree.specs.declared.model.Column.{Column}
use Rattle.resolve_told_sigs.specs.Kinds.{NamesParent}
use Rattle.resolve_told_sigs.proofs.kinds.are_parents.Given as goal

abbrev pub invariant-loop-place : goal.invariant-loop-place
invariant-loop-place l = (i : ℕ) (x : SigName) → i < l.place → slice_get l.written i ≡ Some x → (c : Column) → slice_get l.columns i ≡ Some c → NamesParent l.names.scopes l.instance x c
