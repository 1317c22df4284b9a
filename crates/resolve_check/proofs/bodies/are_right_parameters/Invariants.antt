use Rattle.std.proofs.Common.{◌≡◌, ◌<◌, ℕ, [], Some, slice_get, take}
use Rattle.core_tree.specs.declared.model.Parameter.{Parameter}
use Rattle.core_tree.specs.Models.{AnyField, IsRightBound}
use Rattle.resolve_check.specs.Names.{names_of}
use Rattle.resolve_check.specs.Fits.{shapes_in}
use Rattle.resolve_check.specs.Parameters.{named_after}
use Rattle.resolve_check.proofs.bodies.are_right_parameters.Given as goal

abbrev pub invariant-loop-place : goal.invariant-loop-place
invariant-loop-place l = record {
  same : l.names ≡ named_after (shapes_in l.plain) (take l.place l.parameters) 0 [];
  right : (k : ℕ) (p : Parameter) → k < l.place → slice_get l.parameters k ≡ Some p → IsRightBound l.model AnyField p.bound (names_of (named_after (shapes_in l.plain) (take k l.parameters) 0 []));
}
