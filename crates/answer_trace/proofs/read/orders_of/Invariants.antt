use Rattle.std.proofs.Common.{◌≡◌}
use Rattle.answer_trace.specs.Reading.{orders_before}
use Rattle.answer_trace.proofs.read.orders_of.Given as goal

abbrev pub invariant-loop-place : goal.invariant-loop-place
invariant-loop-place l = l.orders.items ≡ orders_before l.relations l.place
