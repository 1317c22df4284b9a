use Rattle.bound_uppers.proofs.Filling.{kind_just}
use Rattle.bound_uppers.proofs.rows.kind_set.Goals as goal

pub returns : goal.returns
returns c = kind_just c.args.sets.now c.args.kind c.set_of-found.result.now c.in_ok-set.set c.requires.sets c.set_of-found.ensures c.in_ok-set.ensures
