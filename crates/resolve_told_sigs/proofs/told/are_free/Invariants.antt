use Rattle.std.proofs.Common.{◌≡◌, ◌<◌, ◌≤◌, ℕ, Some, slice_get}
use Rattle.core_tree.specs.declared.model.Field.{Field}
use Rattle.resolve_told_sigs.specs.Told.{IsFree}
use Rattle.resolve_told_sigs.proofs.told.are_free.Given as goal

abbrev pub invariant-loop-place : goal.invariant-loop-place
invariant-loop-place l = (k : ℕ) (f : Field) → k < l.place → slice_get l.fields k ≡ Some f → l.first ≤ k → IsFree f
