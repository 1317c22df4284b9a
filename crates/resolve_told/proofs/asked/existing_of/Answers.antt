use Rattle.core_tree.proofs.RowLemmas.{counted_is}
use Rattle.resolve_told.proofs.asked.existing_of.Goals as goal

pub returns-in-Counted : goal.returns-in-Counted
returns-in-Counted c = rw (c.in-Counted.is, c.as_slice.ensures.value, c.deref.ensures) (counted_is c.in-Counted.quantity c.in-Counted.list c.in-Counted.inner)
