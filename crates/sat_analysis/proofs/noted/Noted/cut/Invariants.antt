use Rattle.std.proofs.Common.{◌≡◌, ◌≤◌, length, take}
use Rattle.sat_analysis.proofs.noted.Noted.cut.Given as goal

abbrev pub invariant-loop-self : goal.invariant-loop-self
invariant-loop-self l = record {
  kept : l.self.literals ≡ take (length l.self.literals) l.initial.self.literals;
  enough : l.len ≤ length l.self.literals;
  within : length l.self.literals ≤ length l.initial.self.literals;
  variables : l.self.variables ≡ l.initial.self.variables;
}

abbrev pub decreases-loop-self : goal.decreases-loop-self
decreases-loop-self l = length l.self.literals
