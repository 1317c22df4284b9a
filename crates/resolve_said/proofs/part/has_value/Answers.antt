use Rattle.std.proofs.Common.{◌∙◌, sym}
use Rattle.resolve_said.specs.Operators.{has_value}
use Rattle.resolve_said.proofs.part.has_value.Goals as goal

pub returns-then-count-len : goal.returns-then-count-len
returns-then-count-len c = λ h ts same. has_value c.in-Some.ensures (same ∙ c.if-count-len.true ∙ c.len.ensures) (sym c.is_function.ensures ∙ h)
