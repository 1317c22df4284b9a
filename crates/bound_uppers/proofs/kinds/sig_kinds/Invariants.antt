use Rattle.std.proofs.Common.{◌-◌, length}
use Rattle.bound_uppers.specs.Levels.{Rises}
use Rattle.bound_uppers.proofs.kinds.sig_kinds.Given as goal

abbrev pub invariant-loop-step : goal.invariant-loop-step
invariant-loop-step l = Rises l.sigs l.ups (length l.sigs) l.sig (length l.sigs - l._step) l.rows.items l.waiting.items
