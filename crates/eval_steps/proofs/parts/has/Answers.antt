use Rattle.eval_steps.proofs.PartLaw.{has_is}
use Rattle.eval_steps.proofs.parts.has.Goals as goal

pub returns : goal.returns
returns c =
    has_is c.set_of-x.result.now c.args.a.now c.set_of-x.ensures c.args.quantity c.has_quantity.result c.has_quantity.ensures
