use Rattle.std.proofs.Common.{◌≡◌, ◌<◌, ℕ, length, slice_index}
use Rattle.bound_uppers.specs.Repeats.{IsFirst}
use Rattle.bound_uppers.proofs.shortening.numbers.Given as goal

abbrev pub invariant-loop-state : goal.invariant-loop-state
invariant-loop-state l = record {
  count : length l.all.items ≡ l.state;
  firsts : (place : ℕ) → place < l.state → IsFirst l.lasso.states place (slice_index l.all.items place);
}
