use Rattle.std.proofs.Common.{◌≡◌}
use Rattle.form_target.specs.Asked.{EachBelow, IsSigDeclared}
use Rattle.form_target.specs.Added.{Adds}
use Rattle.form_target.proofs.declarations.of_sigs.Given as goal

abbrev pub invariant-loop-sig : goal.invariant-loop-sig
invariant-loop-sig l = (l.number ≡ l.sig-index) × Adds l.model l.initial.all.items l.all.items (λ w i. EachBelow l.model.sigs l.number (IsSigDeclared l.model w i))
