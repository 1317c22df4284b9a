use Rattle.std.proofs.Common.{◌≡◌, length}
use Rattle.base_words.specs.Words.{words}
use Rattle.sat_dimacs.specs.Text.{take_words}
use Rattle.sat_dimacs.specs.Read.{IsTaken}
use Rattle.sat_dimacs.proofs.read.take_words.Given as goal

abbrev pub invariant-loop-word : goal.invariant-loop-word
invariant-loop-word l =
    record {
      taken : take_words l.most l.taken (words l.rest) ≡ take_words l.most l.initial.taken (words l.line);
      within : IsTaken l.most l.taken;
    }

abbrev pub decreases-loop-word : goal.decreases-loop-word
decreases-loop-word l = length l.rest
