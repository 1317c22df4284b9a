use Rattle.std.proofs.Common.{◌≡◌, ◌<◌, ℕ, Some, slice_get}
use Rattle.core_tree.specs.declared.model.Sig.{Sig}
use Rattle.resolve_told_sigs.specs.Told.{IsLiteral}
use Rattle.resolve_told_sigs.proofs.sigs.are_strings.Given as goal

abbrev pub invariant-loop-place : goal.invariant-loop-place
invariant-loop-place l = (n : ℕ) (d : Sig) → n < l.place → slice_get l.sigs n ≡ Some d → l.first < n → IsLiteral l.string d
