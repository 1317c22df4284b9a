use Rattle.std.proofs.Common.{◌∙◌, subst}
use Rattle.resolve_said.specs.Said.{standing_of}
use Rattle.resolve_told.specs.Bodies.{AreParameters, parameters_of}
use Rattle.resolve_told.proofs.bodies.has_all_parameters.Goals as goal

pub returns-in_ok-has_all-in-Some : goal.returns-in_ok-has_all-in-Some
returns-in_ok-has_all-in-Some c =
    let found = rw c.in-Some.is at c.in_ok-parameter_columns.ensures in
    λ same.
    subst (λ ws. AreParameters (standing_of c.args.site.now) ws (parameters_of c.args.receiver.now c.args.written.now) c.args.body.now.parameters)
    (c.as_slice-columns.ensures ∙ found)
    (subst (λ ps. AreParameters (standing_of c.args.site.now) c.as_slice-columns.result.now (parameters_of c.args.receiver.now c.args.written.now) ps) c.as_slice-parameters.ensures (c.in_ok-has_all-in-Some.ensures same))
