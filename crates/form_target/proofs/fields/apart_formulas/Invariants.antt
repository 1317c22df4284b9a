use Rattle.std.proofs.Common.{◌≡◌}
use Rattle.form_target.specs.Asked.{EachBelow, IsApartFrom}
use Rattle.form_target.specs.Added.{Adds}
use Rattle.form_target.proofs.fields.apart_formulas.Given as goal

abbrev pub invariant-loop-other : goal.invariant-loop-other
invariant-loop-other l = (l.other_number ≡ l.other-index) × Adds l.model l.initial.all.items l.all.items (λ w i. EachBelow l.model.fields l.other_number (IsApartFrom l.model w i l.number l.field))
