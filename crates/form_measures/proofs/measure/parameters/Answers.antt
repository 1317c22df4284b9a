use Rattle.std.proofs.Common.{◌+◌, refl, arith}
use Rattle.form_measures.proofs.Lists.{parameter_start, parameter_turn, parameter_end}
use Rattle.form_measures.proofs.measure.parameters.Goals as goal

pub loop-place-preserved : goal.loop-place-preserved
loop-place-preserved c = parameter_turn c.loop-place.place (c.loop-place.place + 1) c.loop-place.names.items c.enter.new.names.items c.in_ok-weight.weight refl c.loop-place.invariant c.in_ok-weight.ensures c.in_ok-enter.ensures

pub loop-place-init : goal.loop-place-init
loop-place-init c = parameter_start c.new-names.result.items c.new-names.ensures.items

pub returns : goal.returns
returns c = parameter_end c.loop-place.names.items c.args.count c.loop-place.place (omega arith) c.loop-place.invariant
