use Rattle.std.proofs.Common.{◌≡◌, ◌++◌, ◌+◌, ◌-◌, ℕ, length, ap, ◌∙◌, suc, arith, slice_get}
use Rattle.answer_trace.specs.Owners.{walk}
use Rattle.answer_trace.specs.Made.{field_labels, field_label_at}
use Rattle.answer_trace.proofs.Labelled.{walk_step}
use Rattle.answer_trace.proofs.make.push_fields.Goals as goal

pub loop-step-preserved : goal.loop-step-preserved
loop-step-preserved c =
    let model = c.args.model.now in
    let m = length model.fields in
    let old = c.loop-step.relations in
    let next = c.args.next.now in
    let link = c.loop-step.link in
    let at : length next - link ≡ m - link = omega arith in
    let left : suc (m - (c.loop-step._step + 1)) ≡ m - c.loop-step._step = omega arith in
    record {
      inside = c.requires.inside (link - 1);
      rest =
          walk_step model next old c.push.new.self m (m - (c.loop-step._step + 1)) link (omega arith) (c.in_ok-push.ensures.ok ∙ ap (λ ls. old ++ ls) c.in_ok-field_label.ensures ∙ ap (λ (k : ℕ). old ++ field_label_at model k (slice_get model.fields k)) at)
          ∙ ap (λ (n : ℕ). old ++ field_labels model (walk m next n link)) left
          ∙ c.loop-step.invariant.rest;
    }
