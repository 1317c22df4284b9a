use Rattle.core_tuples.proofs.DistinctLaw.{distinct_none, distinct_step}
use Rattle.core_tuples.proofs.rows.distinct.Goals as goal

pub loop-place-init : goal.loop-place-init
loop-place-init c = rw c.new-kept.ensures.items (distinct_none c.args.arity c.args.tuples.now c.requires.columns c.requires.numbers c.requires.least c.requires.most)

pub loop-place-preserved : goal.loop-place-preserved
loop-place-preserved c = rw c.in_ok-add_if.ensures (distinct_step c.args.arity c.args.tuples.now c.requires.columns c.requires.numbers c.requires.order c.loop-place.kept.items c.loop-place.place c.loop-place-test.true c.loop-place.invariant c.is_last.result c.index-tuples-place.result c.index-tuples-place.is c.is_last.ensures)
