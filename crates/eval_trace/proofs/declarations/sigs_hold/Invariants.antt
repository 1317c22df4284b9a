use Rattle.std.proofs.Common.{◌≡◌, ◌<◌, ℕ, slice_get, Some}
use Rattle.core_tree.specs.declared.model.Sig.{Sig}
use Rattle.eval_trace.specs.Asked.{SigIs}
use Rattle.eval_trace.proofs.declarations.sigs_hold.Given as goal

abbrev pub invariant-loop-place : goal.invariant-loop-place
invariant-loop-place l = (n : ℕ) → n < l.place → (d : Sig) → slice_get l.judge.model.sigs n ≡ Some d → SigIs l.judge l.position n d
