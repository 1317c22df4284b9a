use Rattle.std.proofs.Common.{◌≡◌, ◌++◌, ◌-◌, ◌≤◌, length}
use Rattle.answer_trace.specs.Owners.{walk}
use Rattle.answer_trace.specs.Made.{field_labels}
use Rattle.answer_trace.proofs.make.push_fields.Given as goal

abbrev pub invariant-loop-step : goal.invariant-loop-step
invariant-loop-step l =
    record {
      inside : l.link ≤ length l.model.fields;
      rest : l.relations ++ field_labels l.model (walk (length l.model.fields) l.next (length l.model.fields - l._step) l.link) ≡ l.initial.relations ++ field_labels l.model (walk (length l.model.fields) l.next (length l.model.fields) l.first);
    }
