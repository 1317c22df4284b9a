use Rattle.eval_steps.proofs.PartLaw.{inside_is}
use Rattle.eval_steps.proofs.parts.is_inside.Goals as goal

pub returns : goal.returns
returns c =
    inside_is c.set_of-x.result.now c.args.a.now c.set_of-x.ensures c.set_of-y.result.now c.args.b.now c.set_of-y.ensures c.inside.result c.inside.ensures
