use Rattle.std.proofs.Common.{ℕ, ◌≤◌}
use Rattle.form_measures.specs.Measured.{measured_within}
use Rattle.form_measures.specs.Weights.{Agrees}
use Rattle.form_measures.proofs.bodies.summaries.Given as goal

abbrev pub invariant-loop-turn : goal.invariant-loop-turn
invariant-loop-turn l = (n : ℕ) → l.turn ≤ n → Agrees (measured_within l.measure l.bodies n) l.known.items
