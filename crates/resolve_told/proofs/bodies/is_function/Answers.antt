use Rattle.resolve_told.proofs.bodies.is_function.Goals as goal

pub returns-in_ok-is_said-in-Some : goal.returns-in_ok-is_said-in-Some
returns-in_ok-is_said-in-Some c = λ same. record {
  instance = c.requires;
  parameters = c.in_ok-has_all.ensures c.if-not-has_all.false;
  value = c.in-Some.value.expr.now;
  result = c.in-Some.value.bound.now;
  form = c.in-Some.ensures;
  said = c.in_ok-is_said-in-Some.ensures.said same;
  bound = c.in_ok-is_said-in-Some.ensures.bound same;
}
