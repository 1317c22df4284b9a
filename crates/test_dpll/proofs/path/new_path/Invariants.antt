use Rattle.std.proofs.Common.{◌≡◌, ℕ, ◌<◌, ◌≤◌, ◌-◌, None, length, slice_index_or}
use Rattle.test_dpll.proofs.path.new_path.Given as goal

abbrev pub invariant-loop-values : goal.invariant-loop-values
invariant-loop-values l =
    record {
      size : length l.values.items ≤ l.variables;
      none : (k : ℕ) → k < length l.values.items → slice_index_or l.values.items k None ≡ None;
    }

abbrev pub decreases-loop-values : goal.decreases-loop-values
decreases-loop-values l = l.variables - length l.values.items
