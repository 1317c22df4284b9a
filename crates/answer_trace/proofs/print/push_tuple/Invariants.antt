use Rattle.std.proofs.Common.{◌≡◌, ◌++◌, flat_map, take, codes}
use Rattle.answer_trace.specs.Text.{atom_text}
use Rattle.answer_trace.proofs.print.push_tuple.Given as goal

abbrev pub invariant-loop-number : goal.invariant-loop-number
invariant-loop-number l = l.out.items ≡ l.initial.out.items ++ flat_map (λ b. codes "->" ++ atom_text l.atoms b) (take l.number-index l.rest)
