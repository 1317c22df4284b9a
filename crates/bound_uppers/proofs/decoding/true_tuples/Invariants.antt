use Rattle.std.proofs.Common.{◌≡◌, ◌+◌, take}
use Rattle.bound_uppers.specs.Table.{chosen, truth}
use Rattle.bound_uppers.proofs.decoding.true_tuples.Given as goal

abbrev pub invariant-loop-place : goal.invariant-loop-place
invariant-loop-place l = record {
  columns : l.set.arity ≡ l.upper.arity;
  tuples : l.set.tuples ≡ chosen (λ place. truth l.assignment (l.first + place)) 0 (take l.place l.upper.tuples);
}
