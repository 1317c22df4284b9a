use Rattle.resolve_said.specs.Operators.{collects}
use Rattle.core_tree.proofs.RowLemmas.{comprehension_is}
use Rattle.resolve_said.proofs.opened.comprehended.Goals as goal

pub returns-in-Comprehension : goal.returns-in-Comprehension
returns-in-Comprehension c = rw c.in-Set.is (rw c.in-Comprehension.is (rw (comprehension_is c.in-Comprehension.list c.in-Comprehension.body) (rw c.deref.ensures (rw c.as_slice.ensures.value (collects)))))
