use Rattle.bound_uppers.proofs.Unrolled.{unrolls}
use Rattle.bound_uppers.proofs.laws.lassos_unroll.Goals as goal

pub returns : goal.returns
returns c = unrolls
