use Rattle.std.proofs.Common.{◌≡◌, ◌<◌, ℕ, slice_get, Some}
use Rattle.core_tree.specs.declared.model.Field.{Field}
use Rattle.eval_trace.specs.Asked.{FieldIs}
use Rattle.eval_trace.proofs.declarations.fields_hold.Given as goal

abbrev pub invariant-loop-place : goal.invariant-loop-place
invariant-loop-place l = (k : ℕ) → k < l.place → (f : Field) → slice_get l.judge.model.fields k ≡ Some f → FieldIs l.judge l.position k f
