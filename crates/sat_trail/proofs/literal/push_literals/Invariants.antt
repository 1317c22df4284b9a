use Rattle.std.proofs.Common.{◌≡◌, ◌≤◌, ◌+◌, ◌++◌, take, vec_capacity}
use Rattle.sat_trail.proofs.literal.push_literals.Given as goal

abbrev pub invariant-loop-place : goal.invariant-loop-place
invariant-loop-place l = record {
  items : l.literals.items ≡ l.initial.literals.items ++ take l.place l.clause;
  room : vec_capacity l.initial.literals ≤ vec_capacity l.literals;
}
