use Rattle.resolve_told.proofs.bodies.is_bound.Goals as goal

pub returns : goal.returns
returns c = λ same. record {
  word = c.has_word.ensures c.if-not-has_word.false;
  expr = c.in_ok-is_said.ensures same;
}
