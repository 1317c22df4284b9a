use Rattle.std.proofs.Common.{◌≡◌}
use Rattle.form_target.specs.Asked.{EachBelow, IsFieldAsked}
use Rattle.form_target.specs.Added.{Adds}
use Rattle.form_target.proofs.declarations.of_fields.Given as goal

abbrev pub invariant-loop-field : goal.invariant-loop-field
invariant-loop-field l = (l.number ≡ l.field-index) × Adds l.model l.initial.all.items l.all.items (λ w i. EachBelow l.model.fields l.number (IsFieldAsked l.model w i))
