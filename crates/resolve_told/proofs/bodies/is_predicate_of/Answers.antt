use Rattle.resolve_told.proofs.bodies.is_predicate_of.Goals as goal

pub returns-clause-said : goal.returns-clause-said
returns-clause-said c = λ same. c.in_ok-is_said.ensures c.if-not-is_said.false
