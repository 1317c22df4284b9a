use Rattle.std.proofs.Common.{◌≡◌, drop}
use Rattle.form_skolem.specs.Steps.{field_has}
use Rattle.form_skolem.proofs.fields.field_has.Given as goal

abbrev pub invariant-loop-field : goal.invariant-loop-field
invariant-loop-field l = field_has l.fields l.label ≡ field_has (drop l.field-index l.fields) l.label
