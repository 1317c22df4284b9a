use Rattle.std.proofs.Common.{◌≡◌, ◌<◌, ℕ, Some, slice_get}
use Rattle.core_tree.specs.declared.model.Sig.{Sig}
use Rattle.resolve_told_opens.proofs.told.has_opens.Given as goal

abbrev pub invariant-loop-place : goal.invariant-loop-place
invariant-loop-place l = (s : ℕ) (d : Sig) → s < l.place → slice_get l.sigs s ≡ Some d → slice_get l.table s ≡ Some d.exactly
