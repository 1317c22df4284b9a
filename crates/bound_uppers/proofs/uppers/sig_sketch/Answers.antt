use Rattle.std.proofs.Common.{refl, length}
use Rattle.bound_uppers.proofs.Sketching.{right_sig}
use Rattle.bound_uppers.proofs.uppers.sig_sketch.Goals as goal

pub returns-clause-right : goal.returns-clause-right
returns-clause-right c = right_sig c.args.sigs.now c.args.ups.now (length c.args.sigs.now) c.args.number _ refl c.in_ok-rows.ensures.rows
