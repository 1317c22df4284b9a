use Rattle.std.proofs.Common.{◌≡◌, ◌<◌, ℕ, Some, slice_get, All}
use Rattle.core_tree.specs.declared.model.Sig.{Sig}
use Rattle.core_tree.specs.Models.{parents_of}
use Rattle.resolve_check.specs.Kept.{FallsTo}
use Rattle.resolve_check.proofs.sigs.are_falling.Given as goal

abbrev pub invariant-loop-place : goal.invariant-loop-place
invariant-loop-place l = (k : ℕ) (d : Sig) → k < l.place → slice_get l.sigs k ≡ Some d → All (FallsTo l.numbers k) (parents_of d.kind)
