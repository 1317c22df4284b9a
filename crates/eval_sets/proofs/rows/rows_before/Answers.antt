use Rattle.std.proofs.Common.{◌++◌, arith, refl}
use Rattle.core_tuples.specs.Sets.{In}
use Rattle.eval_sets.specs.Rows.{GivesBefore}
use Rattle.eval_sets.proofs.Gather.{gathers_none, gathers_more, gathered}
use Rattle.eval_sets.proofs.RowLaw.{before_means}
use Rattle.eval_sets.proofs.rows.rows_before.Goals as goal

pub loop-tuple-init : goal.loop-tuple-init
loop-tuple-init c =
    gathers_none c.empty_of-all.result (GivesBefore c.args.end.now) (λ t h. (c.empty_of-all.ensures.just t).0 h)

pub loop-tuple-preserved : goal.loop-tuple-preserved
loop-tuple-preserved c =
    gathers_more c.loop-tuple.all c.add_before.new.all (GivesBefore c.args.end.now) c.keyed-tuples.result.now c.loop-tuple.tuple-index c.tuple-item.result c.tuple-item.result c.loop-tuple-test.true c.tuple-item.is refl c.loop-tuple.invariant c.in_ok-add_before.ensures

pub returns : goal.returns
returns c =
    gathered c.args.set.now c.loop-tuple.all (GivesBefore c.args.end.now) c.keyed-tuples.result.now c.loop-tuple.tuple-index (λ t. In (t ++ c.args.end.now) c.args.set.now) (omega arith) c.keyed-tuples.ensures.all c.loop-tuple.invariant (before_means c.args.set.now c.args.end.now)
