use Rattle.bound_uppers.proofs.Filling.{kind_of_set, kinds_more}
use Rattle.bound_uppers.proofs.rows.longer.Goals as goal

pub returns : goal.returns
returns c = λ row n lt e was. kinds_more c.args.sets.now row n c.args.kind c.args.set.now c.set_of-column.result.now c.in_ok-more.more lt e was (kind_of_set c.args.sets.now c.args.kind c.set_of-column.result.now c.requires.sets c.set_of-column.ensures) c.in_ok-more.ensures
