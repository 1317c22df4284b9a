use Rattle.std.proofs.Common.{◌≡◌, ◌<◌, ℕ, Some, slice_get}
use Rattle.core_tree.specs.declared.model.Field.{Field}
use Rattle.resolve_check.specs.Fits.{order_of}
use Rattle.resolve_check.specs.Kept.{IsFieldButType}
use Rattle.resolve_check.proofs.fields.are_right_fields.Given as goal

abbrev pub invariant-loop-place : goal.invariant-loop-place
invariant-loop-place l = (k : ℕ) (f : Field) → k < l.place → slice_get l.model.fields k ≡ Some f → IsFieldButType l.model (order_of l.shape) k f
