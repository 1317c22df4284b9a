use Rattle.std.proofs.Common.{ℕ, ◌<◌}
use Rattle.load_state.specs.Doors.{Has}
use Rattle.load_state.proofs.named.has_all.Given as goal

abbrev pub invariant-loop-number : goal.invariant-loop-number
invariant-loop-number l = (n : ℕ) → n < l.number → Has l.finished n
