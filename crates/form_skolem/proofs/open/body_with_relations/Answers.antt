use Rattle.form_skolem.proofs.Opening.{body_none, body_some}
use Rattle.form_skolem.proofs.open.body_with_relations.Goals as goal

pub returns-then-has_relation-clause-some : goal.returns-then-has_relation-clause-some
returns-then-has_relation-clause-some c = (c.get.result.now, c.in-Some.is, c.get.ensures, body_some c.get.result.now.parameters c.as_slice.result.now c.as_slice.ensures c.if-has_relation.ensures)

pub returns-else-has_relation-clause-none : goal.returns-else-has_relation-clause-none
returns-else-has_relation-clause-none c = λ b x again at. body_none c.args.bodies.now c.args.body c.in-Some.number b c.get.result.now x c.as_slice.result.now c.in-Some.is c.get.ensures c.as_slice.ensures c.if-has_relation.ensures again at
