use Rattle.std.proofs.Common.{◌≡◌, take}
use Rattle.core_meaning.proofs.lasso.state_copies.Given as goal

abbrev pub invariant-loop-state : goal.invariant-loop-state
invariant-loop-state l = l.all.items ≡ take l.state-index l.states
