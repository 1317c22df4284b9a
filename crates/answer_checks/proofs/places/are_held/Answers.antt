use Rattle.std.proofs.Common.{◌≡◌, ℕ, Contains, arith}
use Rattle.answer_trace.specs.declared.label.RelationLabel.{RelationLabel}
use Rattle.answer_checks.proofs.Lists.{below_more}
use Rattle.answer_checks.proofs.places.are_held.Goals as goal

pub loop-place-preserved : goal.loop-place-preserved
loop-place-preserved c =
    below_more (λ (k : ℕ). (r : RelationLabel) × Contains c.args.relations.now r × (r.place ≡ k)) c.loop-place.place c.loop-place.invariant (c.is_held.ensures c.if-not-is_held.false)

pub returns : goal.returns
returns c = λ t k low. c.loop-place.invariant k (omega (arith, low, c.loop-place-test.false))
