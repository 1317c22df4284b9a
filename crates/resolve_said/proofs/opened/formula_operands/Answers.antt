use Rattle.resolve_said.specs.Operators.{connects, follows}
use Rattle.resolve_said.proofs.opened.formula_operands.Goals as goal

pub returns-else-not-has_connective : goal.returns-else-not-has_connective
returns-else-not-has_connective c = rw c.in-Connect.is (rw c.deref.ensures (rw c.deref-in-Connect.ensures (connects (c.has_connective.ensures c.if-not-has_connective.false))))

pub returns-else-not-has_times : goal.returns-else-not-has_times
returns-else-not-has_times c = rw c.in-TemporalPair.is (rw c.deref-in-TemporalPair.ensures (rw c.deref-in-TemporalPair-2.ensures (follows (c.has_times.ensures c.if-not-has_times.false))))
