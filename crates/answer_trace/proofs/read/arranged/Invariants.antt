use Rattle.std.proofs.Common.{◌≡◌, take, flat_map, slice_get}
use Rattle.answer_trace.specs.Reading.{one_set}
use Rattle.answer_trace.proofs.read.arranged.Given as goal

abbrev pub invariant-loop-order : goal.invariant-loop-order
invariant-loop-order l = l.state ≡ flat_map (λ order. one_set (slice_get l.sets order)) (take l.order-index l.orders)
