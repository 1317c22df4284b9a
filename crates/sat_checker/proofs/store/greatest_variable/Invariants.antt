use Rattle.std.proofs.Common.{ℕ, ℤ, nat_abs, ◌≤◌, ◌<◌, ◌^◌, slice_index_or}
use Rattle.sat_checker.proofs.store.greatest_variable.Given as goal

abbrev pub invariant-loop-literal : goal.invariant-loop-literal
invariant-loop-literal l =
    record {
      each : (k : ℕ) (d : ℤ) → k < l.literal-index → nat_abs (slice_index_or l.literals k d) ≤ l.greatest;
      fits : l.greatest < 2 ^ 63;
    }
