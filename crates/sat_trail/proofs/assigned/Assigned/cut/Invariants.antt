use Rattle.std.proofs.Common.{◌≡◌, ◌≤◌, length, take}
use Rattle.sat_trail.proofs.assigned.Assigned.cut.Given as goal

abbrev pub invariant-loop-self : goal.invariant-loop-self
invariant-loop-self l = record {
  kept : l.self.trail ≡ take (length l.self.trail) l.initial.self.trail;
  enough : l.len ≤ length l.self.trail;
  within : length l.self.trail ≤ length l.initial.self.trail;
  variables : length l.self.values ≡ length l.initial.self.values;
  levels : l.self.levels ≡ l.initial.self.levels;
  reasons : l.self.reasons ≡ l.initial.self.reasons;
}

abbrev pub decreases-loop-self : goal.decreases-loop-self
decreases-loop-self l = length l.self.trail
