use Rattle.eval_steps.proofs.PartLaw.{multiplied_is}
use Rattle.eval_steps.proofs.parts.multiplied.Goals as goal

pub returns : goal.returns
returns c =
    multiplied_is c.set_of-x.result.now c.args.a.now c.set_of-x.ensures c.set_of-y.result.now c.args.b.now c.set_of-y.ensures c.in_ok-set.set c.in_ok-set.ensures
