use Rattle.std.proofs.Common.{◌≡◌, [], length}
use Rattle.base_words.specs.Words.{words}
use Rattle.sat_lrat.specs.Text.{numbers_after}
use Rattle.sat_lrat.proofs.words.read_numbers.Given as goal

abbrev pub invariant-loop-word : goal.invariant-loop-word
invariant-loop-word l = numbers_after l.cut l.minus l.hints (words l.rest) ≡ numbers_after l.cut l.minus [] (words l.line)

abbrev pub decreases-loop-word : goal.decreases-loop-word
decreases-loop-word l = length l.rest
