use Rattle.resolve_type_check.specs.Names.{names_of}
use Rattle.form_skolem.specs.Steps.{AreTypesSoFar}
use Rattle.form_skolem.proofs.bounds.bound_types.Given as goal

abbrev pub invariant-loop-place : goal.invariant-loop-place
invariant-loop-place l = AreTypesSoFar l.model l.columns l.parameters l.place (names_of l.names) l.all.items
