use Rattle.std.proofs.Common.{[], refl, take, arith}
use Rattle.core_tree.specs.declared.model.Parameter.{Parameter}
use Rattle.core_tree.specs.Models.{AnyField, IsRightBound}
use Rattle.resolve_check.specs.Names.{names_of}
use Rattle.resolve_check.specs.Fits.{shapes_in}
use Rattle.resolve_check.specs.Parameters.{named_after, IsParameter}
use Rattle.resolve_check.proofs.Falling.{front_all}
use Rattle.resolve_check.proofs.ParameterSteps.{some_of, named_step, right_step, parameters_right}
use Rattle.resolve_check.proofs.bodies.are_right_parameters.Goals as goal

pub loop-place-preserved : goal.loop-place-preserved
loop-place-preserved c =
    let found : IsParameter c.args.model.now (shapes_in c.args.plain.now) c.loop-place.names c.loop-place.place c.index-parameters-place.result c.in-Some.named = some_of (IsParameter c.args.model.now (shapes_in c.args.plain.now) c.loop-place.names c.loop-place.place c.index-parameters-place.result) c.in_ok-right_parameter.field-0 c.in-Some.named c.in-Some.is c.in_ok-right_parameter.ensures in
    record {
      same = named_step (shapes_in c.args.plain.now) c.args.parameters.now c.loop-place.place c.index-parameters-place.result c.loop-place.names c.in-Some.named c.push.new.self c.loop-place-test.true c.index-parameters-place.is c.loop-place.invariant.same found.same c.in_ok-push-in-Some.ensures.ok;
      right = right_step (shapes_in c.args.plain.now) c.args.model.now c.args.parameters.now c.loop-place.place c.index-parameters-place.result c.loop-place.names c.in-Some.named c.index-parameters-place.is c.loop-place.invariant.same found c.loop-place.invariant.right;
    }

pub returns : goal.returns
returns c = λ t. parameters_right c.args.model.now c.args.plain.now c.requires.plain c.args.parameters.now (front_all (λ k (p : Parameter). IsRightBound c.args.model.now AnyField p.bound (names_of (named_after (shapes_in c.args.plain.now) (take k c.args.parameters.now) 0 []))) c.args.parameters.now c.loop-place.place c.loop-place-test.false c.loop-place.invariant.right)
