use Rattle.resolve_said.specs.Operators.{for_each}
use Rattle.core_tree.proofs.RowLemmas.{for_all_is}
use Rattle.resolve_said.proofs.opened.for_all.Goals as goal

pub returns-in-ForAll : goal.returns-in-ForAll
returns-in-ForAll c = rw c.in-Formula.is (rw c.in-ForAll.is (rw (for_all_is c.in-ForAll.list c.in-ForAll.body) (rw c.deref.ensures (rw c.as_slice.ensures.value (for_each)))))
