use Rattle.std.proofs.Common.{arith}
use Rattle.bound_uppers.proofs.Filling.{span_none, span_more, span_just}
use Rattle.bound_uppers.proofs.rows.span_set.Goals as goal

pub loop-place-init : goal.loop-place-init
loop-place-init c = span_none c.args.span.first c.empty-set.result c.empty-set.ensures

pub loop-place-preserved : goal.loop-place-preserved
loop-place-preserved c = span_more c.args.span.first c.loop-place.place c.loop-place.set c.add_number.new.set c.loop-place.invariant c.in_ok-add_number.ensures

pub returns : goal.returns
returns c = span_just c.args.span c.loop-place.set c.loop-place.place (omega arith) (omega arith) c.loop-place.invariant
