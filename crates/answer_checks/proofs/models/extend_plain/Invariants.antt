use Rattle.std.proofs.Common.{◌≡◌, ◌<◌, ℕ, Some, slice_get}
use Rattle.core_tree.specs.declared.model.Sig.{Sig}
use Rattle.answer_checks.specs.Parts.{ExtendsPlainSig}
use Rattle.answer_checks.proofs.models.extend_plain.Given as goal

abbrev pub invariant-loop-place : goal.invariant-loop-place
invariant-loop-place l = (k : ℕ) (d : Sig) → k < l.place → slice_get l.sigs k ≡ Some d → ExtendsPlainSig l.sigs d.kind
