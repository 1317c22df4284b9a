use Rattle.resolve_said.specs.Operators.{orders}
use Rattle.resolve_said.proofs.opened.ordered.Goals as goal

pub returns-else-not-has_order : goal.returns-else-not-has_order
returns-else-not-has_order c = rw c.in-Compare.is (rw c.deref.ensures (rw c.deref-in-Compare.ensures (orders (c.has_order.ensures c.if-not-has_order.false))))
