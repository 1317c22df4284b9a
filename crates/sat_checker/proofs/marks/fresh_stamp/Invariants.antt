use Rattle.std.proofs.Common.{◌≡◌, ℕ, ◌<◌, slice_index}
use Rattle.sat_checker.proofs.marks.fresh_stamp.Given as goal

abbrev pub invariant-loop-old : goal.invariant-loop-old
invariant-loop-old l = (k : ℕ) → k < l.old-index → slice_index l.marks k ≡ 0
