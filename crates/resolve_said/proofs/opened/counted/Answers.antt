use Rattle.resolve_said.specs.Operators.{for_some}
use Rattle.core_tree.proofs.RowLemmas.{counted_is}
use Rattle.resolve_said.proofs.opened.counted.Goals as goal

pub returns-else-not-has_quantity : goal.returns-else-not-has_quantity
returns-else-not-has_quantity c = rw c.in-Formula.is (rw c.in-Counted.is (rw (counted_is c.in-Counted.quantity c.in-Counted.list c.in-Counted.body) (rw c.deref.ensures (rw c.as_slice.ensures.value (for_some (c.has_quantity.ensures c.if-not-has_quantity.false))))))
