use Rattle.answer_analysis.proofs.search.is_trace.Goals as goal

pub returns-clause-trace : goal.returns-clause-trace
returns-clause-trace c t = record {
  command = c.get-command.result.now;
  chosen = c.get-command.ensures;
  satisfies = c.in_ok-holds.ensures.0 t;
}

pub returns-clause-fits : goal.returns-clause-fits
returns-clause-fits c t = c.fits_labels.ensures c.if-not-fits_labels.false
