use Rattle.std.proofs.Common.{◌≡◌, ◌++◌}
use Rattle.answer_trace.specs.Made.{integer_texts}
use Rattle.answer_trace.proofs.make.push_integers.Given as goal

abbrev pub invariant-loop-place : goal.invariant-loop-place
invariant-loop-place l = l.atoms ≡ l.initial.atoms ++ integer_texts l.bits l.place
