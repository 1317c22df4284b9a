use Rattle.std.proofs.Common.{◌++◌, arith, refl}
use Rattle.core_tuples.specs.Sets.{In}
use Rattle.eval_sets.specs.Rows.{GivesAfter}
use Rattle.eval_sets.proofs.Gather.{gathers_none, gathers_more, gathered}
use Rattle.eval_sets.proofs.RowLaw.{after_means}
use Rattle.eval_sets.proofs.rows.rows_after.Goals as goal

pub loop-tuple-init : goal.loop-tuple-init
loop-tuple-init c =
    gathers_none c.empty_of-all.result (GivesAfter c.args.begin.now) (λ t h. (c.empty_of-all.ensures.just t).0 h)

pub loop-tuple-preserved : goal.loop-tuple-preserved
loop-tuple-preserved c =
    gathers_more c.loop-tuple.all c.add_after.new.all (GivesAfter c.args.begin.now) c.keyed-tuples.result.now c.loop-tuple.tuple-index c.tuple-item.result c.tuple-item.result c.loop-tuple-test.true c.tuple-item.is refl c.loop-tuple.invariant c.in_ok-add_after.ensures

pub returns : goal.returns
returns c =
    gathered c.args.set.now c.loop-tuple.all (GivesAfter c.args.begin.now) c.keyed-tuples.result.now c.loop-tuple.tuple-index (λ t. In (c.args.begin.now ++ t) c.args.set.now) (omega arith) c.keyed-tuples.ensures.all c.loop-tuple.invariant (after_means c.args.set.now c.args.begin.now)
