use Rattle.std.proofs.Common.{arith}
use Rattle.form_skolem.proofs.Made.{call_made}
use Rattle.form_skolem.proofs.formula.call_of.Goals as goal

pub returns : goal.returns
returns c = call_made c.args.body c.loop-place.place c.args.fields.now c.loop-place.all (omega arith) c.loop-place.invariant
