use Rattle.std.proofs.Common.{◌∙◌, sym}
use Rattle.resolve_told.proofs.bodies.is_parameter.Goals as goal

pub returns : goal.returns
returns c = λ same. record {
  label = sym c.text.ensures ∙ c.same_text.ensures c.if-not-same_text.false;
  apart = c.same_number.ensures c.if-not-same_number.false;
  word = c.is_bound_word.ensures c.if-not-is_bound_word.false;
  expr = c.in_ok-is_said.ensures same;
}
