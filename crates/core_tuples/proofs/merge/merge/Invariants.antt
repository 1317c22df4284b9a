use Rattle.std.proofs.Common.{◌≤◌, ◌+◌, ◌-◌, length, drop}
use Rattle.core_tuples.specs.Merged.{has, keeps}
use Rattle.core_tuples.proofs.MergeLaw.{Merging}
use Rattle.core_tuples.proofs.merge.merge.Given as goal

abbrev pub invariant-loop-i : goal.invariant-loop-i
invariant-loop-i l = record {
  first_place : l.i ≤ length l.a;
  second_place : l.j ≤ length l.b;
  merging : Merging l.arity l.kept (λ t. keeps l.kept (has l.a t) (has l.b t)) l.all.items (drop l.i l.a) (drop l.j l.b);
}

abbrev pub decreases-loop-i : goal.decreases-loop-i
decreases-loop-i l = (length l.a - l.i) + (length l.b - l.j)
