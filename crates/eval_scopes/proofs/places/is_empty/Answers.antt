use Rattle.eval_scopes.proofs.PlaceLaw.{empty_no}
use Rattle.eval_scopes.proofs.places.is_empty.Goals as goal

pub returns : goal.returns
returns c = empty_no c.args.set.now c.len-count.result c.len-count.ensures.count c.if-count-eq0.false
