use Rattle.std.proofs.Common.{◌≡◌, ◌-◌, length}
use Rattle.core_meaning.specs.Kept.{top_above}
use Rattle.bound_owners.proofs.tops.top_above.Given as goal

abbrev pub invariant-loop-step : goal.invariant-loop-step
invariant-loop-step l = top_above l.sigs (length l.sigs - l._step) l.top ≡ top_above l.sigs (length l.sigs) l.sig
