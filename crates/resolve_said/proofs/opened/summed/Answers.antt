use Rattle.resolve_said.specs.Operators.{sums}
use Rattle.core_tree.proofs.RowLemmas.{sum_over_is}
use Rattle.resolve_said.proofs.opened.summed.Goals as goal

pub returns-in-Sum : goal.returns-in-Sum
returns-in-Sum c = rw c.in-Set.is (rw c.in-Sum.is (rw (sum_over_is c.in-Sum.list c.in-Sum.body) (rw c.deref.ensures (rw c.as_slice.ensures.value (sums)))))
