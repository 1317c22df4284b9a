use Rattle.std.proofs.Common.{eqb-true}
use Rattle.answer_checks.proofs.places.is_at.Goals as goal

pub returns : goal.returns
returns c = λ t. eqb-true c.args.relation.now.place c.args.place t
