use Rattle.std.proofs.Common.{◌≡◌, drop}
use Rattle.form_skolem.specs.Opened.{has_relation}
use Rattle.form_skolem.proofs.open.has_relation.Given as goal

abbrev pub invariant-loop-parameter : goal.invariant-loop-parameter
invariant-loop-parameter l = has_relation l.parameters ≡ has_relation (drop l.parameter-index l.parameters)
