use Rattle.std.proofs.Common.{◌≡◌, ℕ, ◌<◌, [], length, slice_index_or}
use Rattle.sat_trail.specs.State.{clause_at, IsAttached}
use Rattle.sat_trail.proofs.trail.Trail.new.Given as goal

abbrev pub invariant-loop-clause : goal.invariant-loop-clause
invariant-loop-clause l = record {
  variables : l.trail.variables ≡ l.cnf.variables;
  count : length l.trail.ends ≡ l.clause-index;
  each : (i : ℕ) → i < l.clause-index → clause_at l.trail i ≡ slice_index_or l.clause-items i [];
  marked : length l.trail.attached ≡ l.clause-index;
  attached : (i : ℕ) → i < l.clause-index → IsAttached l.trail i;
  unassigned : l.trail.assignment.trail ≡ [];
  no_level : l.trail.limits ≡ [];
}
