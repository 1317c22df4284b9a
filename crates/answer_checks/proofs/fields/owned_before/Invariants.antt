use Rattle.answer_checks.specs.Fields.{AreOwnedBefore}
use Rattle.answer_checks.proofs.fields.owned_before.Given as goal

abbrev pub invariant-loop-place : goal.invariant-loop-place
invariant-loop-place l = AreOwnedBefore l.fields l.place
