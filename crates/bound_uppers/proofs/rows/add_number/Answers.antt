use Rattle.bound_uppers.proofs.Filling.{number_added}
use Rattle.bound_uppers.proofs.rows.add_number.Goals as goal

pub returns : goal.returns
returns c = number_added c.args.number c.in_ok-tuple.tuple c.args.set.now c.insert.new.self c.requires.columns c.in_ok-tuple.ensures c.in_ok-insert.ensures.ok
