use Rattle.resolve_told.proofs.asked.runs_existing.Goals as goal

pub returns-clause-some : goal.returns-clause-some
returns-clause-some c = λ same. c.is_some.ensures c.if-not-is_some.false

pub returns-clause-call : goal.returns-clause-call
returns-clause-call c = λ same. c.is_call.ensures c.if-not-is_call.false
