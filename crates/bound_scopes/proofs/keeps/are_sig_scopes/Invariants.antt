use Rattle.std.proofs.Common.{◌≡◌, ◌<◌, ℕ, Some, IfSome, slice_get}
use Rattle.core_tree.specs.declared.model.Sig.{Sig}
use Rattle.bound_scopes.specs.Numbers.{IsSigScope}
use Rattle.bound_scopes.proofs.keeps.are_sig_scopes.Given as goal

abbrev pub invariant-loop-place : goal.invariant-loop-place
invariant-loop-place l = (k : ℕ) (d : Sig) → k < l.place → slice_get l.sigs k ≡ Some d → IfSome (slice_get l.numbers k) (IsSigScope d)
