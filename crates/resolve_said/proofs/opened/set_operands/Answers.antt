use Rattle.resolve_said.specs.Operators.{relates, calculates}
use Rattle.resolve_said.proofs.opened.set_operands.Goals as goal

pub returns-else-not-has_relation : goal.returns-else-not-has_relation
returns-else-not-has_relation c = rw c.in-Combine.is (rw c.deref.ensures (rw c.deref-in-Combine.ensures (relates (c.has_relation.ensures c.if-not-has_relation.false))))

pub returns-else-not-has_integer : goal.returns-else-not-has_integer
returns-else-not-has_integer c = rw c.in-Arithmetic.is (rw c.deref-in-Arithmetic.ensures (rw c.deref-in-Arithmetic-2.ensures (calculates (c.has_integer.ensures c.if-not-has_integer.false))))
