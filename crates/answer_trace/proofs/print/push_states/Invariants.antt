use Rattle.std.proofs.Common.{◌≡◌, ◌++◌}
use Rattle.answer_trace.specs.Text.{states_text}
use Rattle.answer_trace.proofs.print.push_states.Given as goal

abbrev pub invariant-loop-number : goal.invariant-loop-number
invariant-loop-number l = l.out.items ≡ l.initial.out.items ++ states_text l.labels l.lasso.states l.number
