use Rattle.std.proofs.Common.{◌≡◌, ◌<◌, ℕ, length, slice_index, take}
use Rattle.bound_uppers.specs.Sums.{at_place}
use Rattle.bound_uppers.proofs.sums.sizes.Given as goal

abbrev pub invariant-loop-weight : goal.invariant-loop-weight
invariant-loop-weight l = record {
  count : length l.all.items ≡ l.count;
  sums : (place : ℕ) → place < l.count → slice_index l.all.items place ≡ at_place place (take l.weight-index l.weights);
}
