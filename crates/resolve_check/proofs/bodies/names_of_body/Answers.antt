use Rattle.std.proofs.Common.{◌≡◌, [], ap, ◌∙◌}
use Rattle.resolve_check.specs.Fits.{shapes_in}
use Rattle.resolve_check.specs.Parameters.{named_after}
use Rattle.resolve_check.proofs.ParameterSteps.{some_of, named_same}
use Rattle.resolve_check.proofs.bodies.names_of_body.Goals as goal

pub returns-in-Some : goal.returns-in-Some
returns-in-Some c = named_same c.args.model.now c.args.plain.now c.requires c.args.body.now c.in-Some.names (some_of (λ ns. ns ≡ named_after (shapes_in c.args.plain.now) c.as_slice.result.now 0 []) c.in_ok-parameters_under.field-0 c.in-Some.names c.in-Some.is c.in_ok-parameters_under.ensures ∙ ap (λ ps. named_after (shapes_in c.args.plain.now) ps 0 []) c.as_slice.ensures)
