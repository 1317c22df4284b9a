use Rattle.resolve_readings.proofs.Lists.{one_of}
use Rattle.resolve_readings.proofs.choices.is_one.Goals as goal

pub returns-in-len1 : goal.returns-in-len1
returns-in-len1 c = λ _. one_of c.args.all.now c.in-len1.len_at_least c.in-len1.len_below
