use Rattle.resolve_names.proofs.Gathering.{parameters_next, parameters_end}
use Rattle.resolve_names.proofs.declared.add_parameters.Goals as goal

pub loop-place-preserved : goal.loop-place-preserved
loop-place-preserved c =
    parameters_next c.args.parameters.now c.args.arguments.now c.loop-place.place c.index-parameters-place.result c.loop-place.declared c.add_declared.new.declared _
    c.loop-place-test.true c.index-parameters-place.is c.loop-place.invariant (cc (c.in_ok-add_declared.ensures, c.argument_in.ensures))

pub returns : goal.returns
returns c = parameters_end c.args.parameters.now c.args.arguments.now c.loop-place.place c.loop-place.declared _ c.loop-place-test.false c.loop-place.invariant
