use Rattle.std.proofs.Common.{refl}
use Rattle.bound_naming.proofs.Indexing.{bound_more}
use Rattle.bound_naming.proofs.spots.add_bound.Goals as goal

pub loop-place-preserved : goal.loop-place-preserved
loop-place-preserved c =
    bound_more c.args.lists.now.items c.loop-place.lists.items c.add_tuple.new.lists.items c.args.bound.now.order c.args.relation c.loop-place.place c.args.bound.now.upper.tuples c.tuple-tuple.result.now c.numbers.result.now
    (record { order = c.args.bound.now.order; relation = c.args.relation; place = c.loop-place.place }) c.tuple-tuple.ensures c.numbers.ensures refl c.loop-place.invariant c.in_ok-add_tuple.ensures
