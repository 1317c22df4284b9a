use Rattle.std.proofs.Common.{◌≡◌, length}
use Rattle.bound_numbers.proofs.sig_numbers.drafted_sums.Given as goal

abbrev pub invariant-loop-place : goal.invariant-loop-place
invariant-loop-place l = (length l.sums.items ≡ length l.sigs) × (length l.families.items ≡ length l.sigs)
