use Rattle.std.proofs.Common.{◌≡◌, ◌<◌, ◌+◌, ℕ, false}
use Rattle.bound_uppers.specs.Table.{truth}
use Rattle.bound_uppers.proofs.decoding.first_true.Given as goal

abbrev pub invariant-loop-state : goal.invariant-loop-state
invariant-loop-state l = (s : ℕ) → s < l.state → truth l.assignment (l.loops + s) ≡ false
