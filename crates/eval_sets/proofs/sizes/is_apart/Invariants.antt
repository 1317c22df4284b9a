use Rattle.std.proofs.Common.{ℕ, ◌≢◌, ◌<◌, ◌-◌, length, get_or}
use Rattle.eval_sets.proofs.sizes.is_apart.Given as goal

abbrev pub invariant-loop-back : goal.invariant-loop-back
invariant-loop-back l = (j : ℕ) (d : ℕ) → j < l.back → l.atom ≢ get_or l.chosen (length l.chosen - 1 - j) d
