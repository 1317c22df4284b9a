use Rattle.answer_certificates.proofs.certificate.test_trace.Goals as goal

pub returns-then-holds-clause-trace : goal.returns-then-holds-clause-trace
returns-then-holds-clause-trace c = c.in_ok-holds.ensures.trace c.if-holds.true
