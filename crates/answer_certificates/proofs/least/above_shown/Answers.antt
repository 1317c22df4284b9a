use Rattle.answer_certificates.proofs.least.above_shown.Goals as goal

pub returns : goal.returns
returns c budget fresh = record {
  table = c.in_ok-rows.rows;
  lined = c.in_ok-rows.ensures c.requires.laid;
  lines = c.args.proof.now.lines;
  refutes = c.requires.refutes;
  fresh = fresh;
  text_is = cc (c.from_vec-shown.ensures, c.in_ok-text.ensures, c.in_ok-trace.ensures);
}
