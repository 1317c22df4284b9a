use Rattle.std.proofs.Common.{◌≡◌}
use Rattle.answer_trace.specs.Made.{texts_before, labels_before}
use Rattle.answer_trace.proofs.make.push_sigs.Given as goal

abbrev pub invariant-loop-place : goal.invariant-loop-place
invariant-loop-place l =
    record {
      relations : l.relations ≡ labels_before l.model l.scopes l.place;
      atoms : l.atoms ≡ texts_before l.model.sigs l.scopes.numbers l.place;
    }
