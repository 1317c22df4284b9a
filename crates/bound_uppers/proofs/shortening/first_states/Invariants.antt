use Rattle.std.proofs.Common.{◌≡◌, take}
use Rattle.bound_uppers.proofs.shortening.first_states.Given as goal

abbrev pub invariant-loop-place : goal.invariant-loop-place
invariant-loop-place l = l.all.items ≡ take l.place l.lasso.states
