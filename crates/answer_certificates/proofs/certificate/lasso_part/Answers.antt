use Rattle.answer_certificates.proofs.certificate.lasso_part.Goals as goal

pub returns : goal.returns
returns c = cc (c.from_vec-shown.ensures, c.trace_part-text.ensures, c.in_ok-trace.ensures)
