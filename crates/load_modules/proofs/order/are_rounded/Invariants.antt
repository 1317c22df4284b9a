use Rattle.std.proofs.Common.{ℕ, ◌<◌}
use Rattle.load_modules.proofs.Numbering.{Rounds}
use Rattle.load_modules.proofs.order.are_rounded.Given as goal

abbrev pub invariant-loop-instance : goal.invariant-loop-instance
invariant-loop-instance l = (n : ℕ) → n < l.instance-index → Rounds l.instances l.texts l.integers n
