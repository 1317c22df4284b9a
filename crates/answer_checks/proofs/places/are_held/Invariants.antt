use Rattle.std.proofs.Common.{◌≡◌, ◌<◌, ℕ, Contains}
use Rattle.answer_trace.specs.declared.label.RelationLabel.{RelationLabel}
use Rattle.answer_checks.proofs.places.are_held.Given as goal

abbrev pub invariant-loop-place : goal.invariant-loop-place
invariant-loop-place l = (k : ℕ) → k < l.place → (r : RelationLabel) × Contains l.relations r × (r.place ≡ k)
