use Rattle.std.proofs.Common.{Option, subst, arith}
use Rattle.base_types.specs.declared.place.Refusal.{Refusal}
use Rattle.resolve_names.specs.Noted.{IsAnswerOf}
use Rattle.resolve_names.proofs.Noting.{none_more, none_twice}
use Rattle.resolve_names.proofs.twice.first_in.Goals as goal

pub loop-instance-preserved : goal.loop-instance-preserved
loop-instance-preserved c =
    none_more c.args.texts.now c.args.instances.now c.loop-instance.instance-index c.instance-item.result c.loop-instance-test.true c.instance-item.is c.loop-instance.invariant
    (subst (λ (o : Option Refusal). IsAnswerOf c.args.texts.now c.instance-item.result o) c.in-None.is c.in_ok-found.ensures.just)

pub returns-clause-just : goal.returns-clause-just
returns-clause-just c = none_twice c.args.texts.now c.args.instances.now c.loop-instance.instance-index (omega (arith, c.loop-instance-test.false)) c.loop-instance.invariant
