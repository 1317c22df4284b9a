use Rattle.std.proofs.Common.{◌-◌, ◌≤◌, ◌<◌, length}
use Rattle.std.specs.List.{AllWithin}
use Rattle.gate_matrix.specs.Joined.{first_of}
use Rattle.gate_matrix.proofs.joins.bound_of.Given as goal

-- the entries before `low` begin below the limit, and those from `high` on do not
abbrev pub invariant-loop-low : goal.invariant-loop-low
invariant-loop-low l = record {
  order : l.low ≤ l.high;
  bound : l.high ≤ length l.entries;
  below : AllWithin (λ e. first_of e < l.limit) l.entries 0 l.low;
  above : AllWithin (λ e. l.limit ≤ first_of e) l.entries l.high (length l.entries);
}

abbrev pub decreases-loop-low : goal.decreases-loop-low
decreases-loop-low l = l.high - l.low
