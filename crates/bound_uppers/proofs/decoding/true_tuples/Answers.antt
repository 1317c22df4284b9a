use Rattle.std.proofs.Common.{◌+◌, ◌∙◌, arith}
use Rattle.bound_uppers.specs.Table.{truth}
use Rattle.bound_uppers.proofs.Choosing.{chosen_next}
use Rattle.bound_uppers.proofs.decoding.true_tuples.Goals as goal

pub loop-place-preserved : goal.loop-place-preserved
loop-place-preserved c = record {
  columns = c.add_tuple.ensures.columns ∙ c.loop-place.invariant.columns;
  tuples = chosen_next (λ place. truth c.args.assignment.now (c.args.first + place)) c.args.upper.now.tuples c.loop-place.place c.is_true-stays.result c.loop-place.set.tuples c.add_tuple.new.set.tuples c.len-place-end.ensures.set.sorted (omega (arith, c.loop-place-test.true, c.len-place-end.ensures.count)) c.is_true-stays.ensures c.loop-place.invariant.tuples c.in_ok-add_tuple.ensures.tuples;
}
