use Rattle.std.proofs.Common.{◌≡◌, [], ap, ◌∙◌}
use Rattle.resolve_check.specs.Fits.{shapes_in}
use Rattle.resolve_check.specs.Parameters.{named_after}
use Rattle.resolve_check.proofs.ParameterSteps.{some_of, columns_same}
use Rattle.resolve_check.proofs.signatures.parameter_columns.Goals as goal

pub returns : goal.returns
returns c = columns_same c.args.model.now c.in_ok-plain.plain c.in_ok-plain.ensures c.args.body.now c.in-Some.names c.in_ok-all-in-Some.all (some_of (λ ns. ns ≡ named_after (shapes_in c.in_ok-plain.plain) c.as_slice.result.now 0 []) c.in_ok-parameters_under.field-0 c.in-Some.names c.in-Some.is c.in_ok-parameters_under.ensures ∙ ap (λ ps. named_after (shapes_in c.in_ok-plain.plain) ps 0 []) c.as_slice.ensures) c.in_ok-all-in-Some.ensures
