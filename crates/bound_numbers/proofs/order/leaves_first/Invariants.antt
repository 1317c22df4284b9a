use Rattle.std.proofs.Common.{◌≡◌, ◌<◌, length, All}
use Rattle.bound_numbers.proofs.order.leaves_first.Given as goal

abbrev pub invariant-loop-turn : goal.invariant-loop-turn
invariant-loop-turn l = All (λ s. s < length l.sigs) l.order.items × (length l.counts.items ≡ length l.sigs)
