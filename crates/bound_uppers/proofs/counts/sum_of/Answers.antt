use Rattle.bound_uppers.proofs.Counting.{capped_sum}
use Rattle.bound_uppers.proofs.counts.sum_of.Goals as goal

pub returns : goal.returns
returns c = λ x y. capped_sum c.args.a c.args.b x y c.saturating_add.result c.saturating_add.ensures
