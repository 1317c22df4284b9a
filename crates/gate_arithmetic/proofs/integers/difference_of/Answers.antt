use Rattle.std.proofs.Common.{◌∙◌}
use Rattle.gate_arithmetic.proofs.IntLaws.{wrap_same}
use Rattle.gate_arithmetic.proofs.integers.difference_of.Goals as goal

pub returns-clause-value : goal.returns-clause-value
returns-clause-value g c = λ x. c.in_ok-made.ensures.value x ∙ wrap_same _ _
