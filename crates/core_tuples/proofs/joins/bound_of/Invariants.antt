use Rattle.std.proofs.Common.{◌-◌, ◌≤◌, ◌<◌, length, get_or}
use Rattle.std.specs.List.{AllWithin}
use Rattle.core_tuples.proofs.joins.bound_of.Given as goal

-- the entries before `low` begin below the limit, and those from `high` on do not
abbrev pub invariant-loop-low : goal.invariant-loop-low
invariant-loop-low l = record {
  order : l.low ≤ l.high;
  bound : l.high ≤ length l.tuples;
  below : AllWithin (λ e. get_or e 0 0 < l.limit) l.tuples 0 l.low;
  above : AllWithin (λ e. l.limit ≤ get_or e 0 0) l.tuples l.high (length l.tuples);
}

abbrev pub decreases-loop-low : goal.decreases-loop-low
decreases-loop-low l = l.high - l.low
