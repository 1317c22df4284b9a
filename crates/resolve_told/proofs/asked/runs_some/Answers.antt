use Rattle.std.proofs.Common.{◌∙◌, ap, map}
use Rattle.core_tree.specs.Trees.{claim_of, variable_of, counted, variable_list}
use Rattle.resolve_told.proofs.asked.runs_some.Goals as goal

pub returns-in_ok-is_right-in-Some : goal.returns-in_ok-is_right-in-Some
returns-in_ok-is_right-in-Some c = λ same. (
  map variable_of c.in-Some.existing.variables.now,
  claim_of c.in-Some.existing.inner.now,
  c.in_ok-is_right-in-Some.ensures.variables same,
  c.in_ok-is_right-in-Some.ensures.call same,
  c.in-Some.ensures ∙ ap (λ q. counted q (variable_list (map variable_of c.in-Some.existing.variables.now)) (claim_of c.in-Some.existing.inner.now)) (c.in_ok-is_right-in-Some.ensures.some same),
)
