use Rattle.std.proofs.Common.{◌≡◌, [], ap, ◌∙◌}
use Rattle.resolve_check.specs.Fits.{shapes_in}
use Rattle.resolve_check.specs.Parameters.{named_after}
use Rattle.resolve_check.proofs.ParameterSteps.{some_of}
use Rattle.resolve_check.proofs.signatures.body_shape.Goals as goal

pub shape_under-requires : goal.shape_under-requires
shape_under-requires c = some_of (λ ns. ns ≡ named_after (shapes_in c.args.plain.now) c.as_slice.result.now 0 []) c.in_ok-parameters_under.field-0 c.in-Some.names c.in-Some.is c.in_ok-parameters_under.ensures ∙ ap (λ ps. named_after (shapes_in c.args.plain.now) ps 0 []) c.as_slice.ensures
