use Rattle.std.proofs.Common.{◌≡◌, ◌++◌}
use Rattle.answer_trace.specs.Made.{numbered_texts}
use Rattle.answer_trace.proofs.make.push_numbered.Given as goal

abbrev pub invariant-loop-number : goal.invariant-loop-number
invariant-loop-number l = l.atoms ≡ l.initial.atoms ++ numbered_texts l.label l.number
