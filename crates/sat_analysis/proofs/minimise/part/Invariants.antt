use Rattle.std.proofs.Common.{◌≡◌, ◌++◌, ℤ, List, length}
use Rattle.sat_analysis.specs.Resolved.{IsParted}
use Rattle.sat_analysis.proofs.minimise.part.Given as goal

abbrev pub invariant-loop-place : goal.invariant-loop-place
invariant-loop-place l = record {
  variables : l.noted.variables ≡ l.trail.variables;
  longer : (ts : List ℤ) × (l.noted.literals ≡ l.fn.noted.literals ++ ts);
  parted : IsParted l.trail (length l.fn.noted.literals) l.place l.noted.literals l.learnt.items l.dropped.items;
}
