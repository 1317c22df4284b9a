use Rattle.resolve_told.proofs.bodies.is_predicate.Goals as goal

pub returns-in_ok-is_said-in-Some : goal.returns-in_ok-is_said-in-Some
returns-in_ok-is_said-in-Some c = λ same. record {
  instance = c.requires;
  parameters = c.in_ok-has_all.ensures c.if-not-has_all.false;
  formula = c.in-Some.formula.now;
  form = c.in-Some.ensures;
  said = c.in_ok-is_said-in-Some.ensures same;
}
