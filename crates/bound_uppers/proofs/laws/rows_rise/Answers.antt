use Rattle.bound_uppers.proofs.Apart.{rows_in_order}
use Rattle.bound_uppers.proofs.laws.rows_rise.Goals as goal

pub returns : goal.returns
returns c = rows_in_order
