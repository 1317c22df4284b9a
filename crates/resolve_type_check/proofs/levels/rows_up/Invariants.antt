use Rattle.std.proofs.Common.{◌-◌, length}
use Rattle.core_tree.specs.Types.{sig_rows}
use Rattle.resolve_type_check.specs.Same.{SameRows}
use Rattle.resolve_type_check.proofs.Rising.{with_waiting}
use Rattle.resolve_type_check.proofs.levels.rows_up.Given as goal

abbrev pub invariant-loop-step : goal.invariant-loop-step
invariant-loop-step l = SameRows (with_waiting l.sigs (length l.sigs - l._step) l.all l.waiting.items) (sig_rows l.sigs (length l.sigs) l.sig)
