use Rattle.std.proofs.Common.{ℕ, ◌<◌}
use Rattle.std.specs.List.{Contains}
use Rattle.sat_trail.specs.Assignment.{value_at}
use Rattle.sat_dropped.proofs.part.are_among.Given as goal

abbrev pub invariant-loop-literal : goal.invariant-loop-literal
invariant-loop-literal l = (j : ℕ) → j < l.literal-index → Contains l.literals (value_at l.clause j)
