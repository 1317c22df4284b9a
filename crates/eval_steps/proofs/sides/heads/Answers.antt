use Rattle.std.proofs.Common.{refl}
use Rattle.eval_steps.specs.Judged.{GivesHead}
use Rattle.eval_steps.proofs.Gather.{gathers_none, gathers_more}
use Rattle.eval_steps.proofs.StepLaw.{gives_all}
use Rattle.eval_steps.proofs.sides.heads.Goals as goal

pub loop-tuple-init : goal.loop-tuple-init
loop-tuple-init c =
    gathers_none c.empty_of-all.result (GivesHead c.args.columns) (λ t h. (c.empty_of-all.ensures.just t).0 h)

pub loop-tuple-preserved : goal.loop-tuple-preserved
loop-tuple-preserved c =
    gathers_more c.loop-tuple.all c.add_head.new.all (GivesHead c.args.columns) c.keyed-tuples.result.now c.loop-tuple.tuple-index c.tuple-item.result c.tuple-item.result c.loop-tuple-test.true c.tuple-item.is refl c.loop-tuple.invariant c.in_ok-add_head.ensures

pub returns : goal.returns
returns c =
    gives_all c.args.set.now c.loop-tuple.all (GivesHead c.args.columns) c.keyed-tuples.result.now c.loop-tuple.tuple-index c.loop-tuple-test.false c.keyed-tuples.ensures.all c.loop-tuple.invariant
