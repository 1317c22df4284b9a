use Rattle.eval_steps.proofs.PartLaw.{equal_is}
use Rattle.eval_steps.proofs.parts.is_equal.Goals as goal

pub returns : goal.returns
returns c =
    equal_is c.set_of-x.result.now c.args.a.now c.set_of-x.ensures c.set_of-y.result.now c.args.b.now c.set_of-y.ensures c.are_equal.result c.are_equal.ensures
