use Rattle.std.proofs.Common.{◌≡◌, ℕ, ◌<◌, false, get_or}
use Rattle.answer_trace.specs.declared.label.RelationLabel.{RelationLabel}
use Rattle.answer_trace.specs.Reading.{has_place}
use Rattle.answer_trace.proofs.read.order_of.Given as goal

abbrev pub invariant-loop-relation : goal.invariant-loop-relation
invariant-loop-relation l =
    record {
      order : l.order ≡ l.relation-index;
      before : (k : ℕ) (d : RelationLabel) → k < l.order → has_place l.place (get_or l.relations k d) ≡ false;
    }
