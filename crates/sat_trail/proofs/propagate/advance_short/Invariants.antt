use Rattle.std.proofs.Common.{◌≡◌, ◌-◌, ◌<◌, ◌≤◌, ◌++◌, ℕ, ℤ, List, length, slice_index}
use Rattle.sat_trail.specs.Watched.{IsTrueIn}
use Rattle.sat_trail.specs.Reasons.{ForcesMore}
use Rattle.sat_trail.proofs.propagate.advance_short.Given as goal

abbrev pub invariant-clauses : goal.invariant-clauses
invariant-clauses l = record {
  variables : length l.assigned.values ≡ length l.initial.assigned.values;
  longer : (ts : List ℤ) × (l.assigned.trail ≡ l.initial.assigned.trail ++ ts);
  forced : ForcesMore l.arena.literals.items l.arena.ends.items l.level l.initial.assigned l.assigned;
  reached : (l.start ≤ l.done) × (l.done ≤ length l.short);
  holds : (j : ℕ) → l.start ≤ j → j < l.done → IsTrueIn l.arena.literals.items l.arena.ends.items l.assigned.trail (slice_index l.short j);
}

abbrev pub decreases-clauses : goal.decreases-clauses
decreases-clauses l = length l.short - l.done
