use Rattle.std.proofs.Common.{◌≡◌, false, All, take}
use Rattle.core_tree.specs.declared.model.Sig.{Sig}
use Rattle.bound_scopes.proofs.limits.has_var_sig.Given as goal

abbrev pub invariant-loop-place : goal.invariant-loop-place
invariant-loop-place l = All (λ (x : Sig). x.is_var ≡ false) (take l.place l.sigs)
