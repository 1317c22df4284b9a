-- The clauses that a trail and a checker both have.
use Rattle.std.specs.Prelude.{ℕ, ◌+◌, ◌<◌, ◌≡◌, Some, length}
use Rattle.sat_lrat.specs.Step.{State}
use Rattle.sat_lrat.specs.Step as step
use Rattle.sat_trail.specs.State.{Search, clause_at}

-- under the numbers up to the greatest, the checker has the trail's clauses in their order
pub record AreShared (s : Search) (state : State) : Type 0 where
  pub top : state.top ≡ length s.ends
  pub each : (n : ℕ) → n < length s.ends → step.clause_at state (n + 1) ≡ Some (clause_at s n)
