use Rattle.std.proofs.Common.{◌≡◌, ◌-◌, length}
use Rattle.core_tree.specs.Types.{is_under}
use Rattle.bound_owners.proofs.own.is_under.Given as goal

abbrev pub invariant-loop-step : goal.invariant-loop-step
invariant-loop-step l = is_under l.sigs (length l.sigs - l._step) l.up l.high ≡ is_under l.sigs (length l.sigs) l.low l.high
