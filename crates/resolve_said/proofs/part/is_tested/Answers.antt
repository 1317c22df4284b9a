use Rattle.std.proofs.Common.{◌∙◌}
use Rattle.resolve_said.specs.Operators.{is_tested}
use Rattle.resolve_said.proofs.part.is_tested.Goals as goal

pub returns-then-count-len : goal.returns-then-count-len
returns-then-count-len c = λ h ts same. is_tested c.in-Some.ensures (same ∙ c.if-count-len.true ∙ c.len.ensures) (c.is_predicate.ensures h)
