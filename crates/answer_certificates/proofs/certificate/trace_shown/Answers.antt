use Rattle.std.proofs.Common.{ap, ◌∙◌}
use Rattle.answer_trace.specs.Text.{trace_text}
use Rattle.answer_texts.specs.Certified.{trace_part}
use Rattle.answer_certificates.proofs.certificate.trace_shown.Goals as goal

pub returns : goal.returns
returns c prepared labels trace fits short = record {
  lasso = c.args.lasso.now;
  trace = trace;
  fits = fits;
  short = short;
  text_is = c.in_ok-shown.ensures ∙ ap (λ l. trace_part c.args.part (trace_text l c.args.lasso.now)) labels;
}
