use Rattle.bound_uppers.proofs.Counting.{capped_product}
use Rattle.bound_uppers.proofs.counts.product_of.Goals as goal

pub returns : goal.returns
returns c = λ x. capped_product c.args.a c.args.b x c.saturating_mul.result c.saturating_mul.ensures
