use Rattle.std.proofs.Common.{◌<◌, length, All}
use Rattle.bound_numbers.proofs.order.leaves.Given as goal

abbrev pub invariant-loop-sig : goal.invariant-loop-sig
invariant-loop-sig l = All (λ s. s < length l.counts) l.order.items
