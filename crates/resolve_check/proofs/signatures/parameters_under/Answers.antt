use Rattle.std.proofs.Common.{◌≡◌, ◌∙◌}
use Rattle.resolve_check.specs.Fits.{shapes_in}
use Rattle.resolve_check.specs.Parameters.{named_next}
use Rattle.resolve_check.proofs.ParameterSteps.{some_of, named_step, named_all}
use Rattle.resolve_check.proofs.signatures.parameters_under.Goals as goal

pub loop-place-preserved : goal.loop-place-preserved
loop-place-preserved c = named_step (shapes_in c.args.plain.now) c.args.parameters.now c.loop-place.place c.index-parameters-place.result c.loop-place.names c.in-Some.named c.push.new.self c.loop-place-test.true c.index-parameters-place.is c.loop-place.invariant (some_of (λ m. m ≡ named_next (shapes_in c.args.plain.now) c.loop-place.names c.loop-place.place c.index-parameters-place.result) c.in_ok-next_parameter.field-0 c.in-Some.named c.in-Some.is c.in_ok-next_parameter.ensures) c.in_ok-push-in-Some.ensures.ok

pub returns : goal.returns
returns c = c.loop-place.invariant ∙ named_all (shapes_in c.args.plain.now) c.args.parameters.now c.loop-place.place c.loop-place-test.false
