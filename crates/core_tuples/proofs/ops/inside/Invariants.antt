use Rattle.std.proofs.Common.{ℕ, List, take, Contains}
use Rattle.core_tuples.specs.Sets.{In}
use Rattle.core_tuples.proofs.ops.inside.Given as goal

abbrev pub invariant-loop-place : goal.invariant-loop-place
invariant-loop-place l = (t : List ℕ) → Contains (take l.place l.a.tuples) t → In t l.b
