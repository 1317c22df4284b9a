use Rattle.resolve_told.proofs.asked.is_variable.Goals as goal

pub returns : goal.returns
returns c = λ same. record {
  number = c.is_number.ensures c.if-not-is_number.false;
  apart = c.same_number.ensures c.if-not-same_number.false;
  bound = c.in_ok-is_said.ensures same;
}
