use Rattle.std.proofs.Common.{◌≡◌, ◌++◌, flat_map, take, codes}
use Rattle.answer_trace.specs.Text.{tuple_text}
use Rattle.answer_trace.proofs.print.push_further_tuples.Given as goal

abbrev pub invariant-loop-tuple : goal.invariant-loop-tuple
invariant-loop-tuple l = l.out.items ≡ l.initial.out.items ++ flat_map (λ u. codes ", " ++ tuple_text l.atoms u) (take l.tuple-index l.tuples)
