use Rattle.std.proofs.Common.{ℕ, ◌<◌}
use Rattle.load_modules.proofs.Numbering.{IsApart}
use Rattle.load_modules.proofs.order.are_apart.Given as goal

-- no text before has the name of an earlier one
abbrev pub invariant-loop-number : goal.invariant-loop-number
invariant-loop-number l = (n : ℕ) → n < l.number → IsApart l.texts n
