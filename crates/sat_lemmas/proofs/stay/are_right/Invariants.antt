use Rattle.std.proofs.Common.{◌≡◌, drop}
use Rattle.sat_lemmas.specs.Kept.{is_marked, are_right}
use Rattle.sat_lemmas.proofs.stay.are_right.Given as goal

abbrev pub invariant-loop-place : goal.invariant-loop-place
invariant-loop-place l = are_right l.clauses (is_marked l.marks) l.place (drop l.place l.lines) ≡ are_right l.clauses (is_marked l.marks) 0 l.lines
