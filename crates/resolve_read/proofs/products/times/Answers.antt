use Rattle.resolve_read.proofs.Behind.{times_next, times_all}
use Rattle.resolve_read.proofs.products.times.Goals as goal

pub loop-place-preserved : goal.loop-place-preserved
loop-place-preserved c = times_next c.args.lines.now c.args.names.now c.loop-place.place c.index-names-place.result c.args.columns.now _ _ _ c.loop-place-test.true c.index-names-place.is c.in_ok-product.ensures c.loop-place.invariant

pub returns : goal.returns
returns c = times_all c.args.lines.now c.args.names.now c.loop-place.place c.args.columns.now _ _ c.loop-place-test.false c.loop-place.invariant
