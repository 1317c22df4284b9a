use Rattle.std.proofs.Common.{ℕ, Some, ap, ◌∙◌}
use Rattle.syntax_parser.proofs.refused.is_at.Goals as goal

pub returns-then-first-number : goal.returns-then-first-number
returns-then-first-number c = λ _. c.in-Some.is ∙ ap (λ (n : ℕ). Some n) c.if-first-number.true
