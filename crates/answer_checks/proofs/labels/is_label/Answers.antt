use Rattle.std.proofs.Common.{arith}
use Rattle.answer_checks.proofs.labels.is_label.Goals as goal

pub returns : goal.returns
returns c = λ t. record {
  line = c.is_line.ensures c.if-not-is_line.false;
  columns = c.are_few.ensures c.if-not-are_few.false;
  hidden = c.has_atom.ensures t;
  within = (let within = c.is_within.ensures c.if-not-is_within.false in omega (arith, within, c.len.ensures));
}
