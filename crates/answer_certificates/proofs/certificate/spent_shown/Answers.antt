use Rattle.answer_certificates.proofs.certificate.spent_shown.Goals as goal

pub returns : goal.returns
returns c = record {
  table = c.in_ok-rows.rows;
  lined = c.in_ok-rows.ensures c.requires.laid;
  lines = c.args.proof.now.lines;
  spent = c.requires.spends.0;
  lemmas = c.requires.spends.1;
  few = c.requires.spends.2;
  text_is = cc (c.from_vec-shown.ensures, c.in_ok-text.ensures, c.in-Some.is, c.requires.spends.0);
}
