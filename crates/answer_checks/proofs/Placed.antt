-- Each place of a state is that of just one relation.
use Rattle.std.proofs.Common.{◌≡◌, ℕ, ◌<◌, List, length, Contains, Some, slice_get, sym, ap, ◌∙◌}
use Rattle.answer_trace.specs.declared.label.RelationLabel.{RelationLabel}
use Rattle.answer_checks.specs.Parts.{HavePlaces}

pub places_by : (relations : List RelationLabel) (holders : List ℕ) → ((k : ℕ) → k < length relations → (r : RelationLabel) × Contains relations r × (r.place ≡ k)) → ((k : ℕ) (r : RelationLabel) → slice_get relations k ≡ Some r → slice_get holders r.place ≡ Some k) → HavePlaces relations
places_by relations holders held own = record {
  each = held;
  once = λ i j r s at there same.
      let both : Some i ≡ Some j = sym (own i r at) ∙ ap (slice_get holders) same ∙ own j s there in
      cc;
}
