use Rattle.std.proofs.Common.{◌≡◌, length}
use Rattle.bound_numbers.proofs.sig_numbers.drafted_numbers.Given as goal

abbrev pub invariant-loop-turn : goal.invariant-loop-turn
invariant-loop-turn l = length l.numbers.items ≡ length l.sigs
