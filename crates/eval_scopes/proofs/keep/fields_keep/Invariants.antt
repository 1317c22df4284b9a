use Rattle.eval_scopes.specs.Asked.{FieldsKept}
use Rattle.eval_scopes.proofs.keep.fields_keep.Given as goal

abbrev pub invariant-loop-place : goal.invariant-loop-place
invariant-loop-place l = FieldsKept l.setting l.place
