use Rattle.std.proofs.Common.{◌↔◌, ℕ, take}
use Rattle.load_state.specs.Doors.{IsAfter}
use Rattle.load_state.specs.Sets.{IsIn}
use Rattle.load_state.proofs.argument.step.Given as goal

abbrev pub invariant-loop-f : goal.invariant-loop-f
invariant-loop-f l = (n : ℕ) → IsIn l.next n ↔ IsAfter (take l.f-index l.finished) l.among l.alias n
