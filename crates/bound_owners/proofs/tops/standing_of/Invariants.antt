use Rattle.std.proofs.Common.{◌≡◌, ◌-◌, length}
use Rattle.core_tree.specs.Types.{standing}
use Rattle.bound_owners.proofs.tops.standing_of.Given as goal

abbrev pub invariant-loop-step : goal.invariant-loop-step
invariant-loop-step l = standing l.sigs (length l.sigs - l._step) l.up ≡ standing l.sigs (length l.sigs) l.sig
