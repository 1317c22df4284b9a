use Rattle.std.proofs.Common.{◌∙◌}
use Rattle.gate_arithmetic.proofs.IntLaws.{remainder_same}
use Rattle.gate_arithmetic.proofs.integers.remainder_of.Goals as goal

pub returns-clause-value : goal.returns-clause-value
returns-clause-value g c = λ x. c.in_ok-made.ensures.value x ∙ remainder_same _ _ _
