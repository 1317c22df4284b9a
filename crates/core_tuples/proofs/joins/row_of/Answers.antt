use Rattle.std.proofs.Common.{◌≤◌, rules}
use Rattle.core_tuples.proofs.RangeLaw.{row_order, row_tests}
use Rattle.core_tuples.proofs.joins.row_of.Goals as goal

in_order : (c : goal.After-bound_of-to) → c.bound_of-from.result ≤ c.bound_of-to.result
in_order c =
    row_order c.args.tuples.now c.args.number c.bound_of-from.result c.bound_of-to.result
    (rw c.from.ensures at c.bound_of-from.ensures.below) (rw c.from.ensures at c.bound_of-from.ensures.above)
    (rw c.from-2.ensures at c.bound_of-to.ensures.below) (rw c.from-2.ensures at c.bound_of-to.ensures.above)
    c.bound_of-from.ensures.within c.bound_of-to.ensures.within

pub slice_bounds-result-count : goal.slice_bounds-result-count
slice_bounds-result-count c = in_order c

pub slice_bounds-result-start : goal.slice_bounds-result-start
slice_bounds-result-start c = let h = in_order c in search rules

pub returns-clause-tests : goal.returns-clause-tests
returns-clause-tests c =
    row_tests c.args.tuples.now c.args.number c.bound_of-from.result c.bound_of-to.result
    (rw c.from.ensures at c.bound_of-from.ensures.below) (rw c.from.ensures at c.bound_of-from.ensures.above)
    (rw c.from-2.ensures at c.bound_of-to.ensures.below) (rw c.from-2.ensures at c.bound_of-to.ensures.above)
    c.bound_of-from.ensures.within c.bound_of-to.ensures.within
