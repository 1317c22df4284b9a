use Rattle.std.proofs.Common.{◌≡◌, length}
use Rattle.bound_naming.proofs.spots.ranked.Given as goal

abbrev pub invariant-loop-place : goal.invariant-loop-place
invariant-loop-place l = length l.all.items ≡ l._place

abbrev pub invariant-loop-relation : goal.invariant-loop-relation
invariant-loop-relation l = length l.all.items ≡ length l.relations
