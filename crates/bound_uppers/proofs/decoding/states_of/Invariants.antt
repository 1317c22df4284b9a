use Rattle.std.proofs.Common.{◌≡◌, ◌<◌, ℕ, length, map}
use Rattle.std.specs.List.{range_with_len}
use Rattle.bound_uppers.specs.Table.{decoded_state}
use Rattle.bound_uppers.specs.Numbers.{HasFirsts}
use Rattle.bound_uppers.proofs.decoding.states_of.Given as goal

abbrev pub invariant-loop-state : goal.invariant-loop-state
invariant-loop-state l = record {
  count : length l.states.items ≡ l.state;
  exact : ((s : ℕ) → s < l.bounds.states → HasFirsts l.bounds.relations l.table s) → l.states.items ≡ map (decoded_state l.bounds.relations l.assignment) (range_with_len 0 l.state);
}
