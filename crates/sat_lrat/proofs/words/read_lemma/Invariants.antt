use Rattle.std.proofs.Common.{◌≡◌, [], length}
use Rattle.base_words.specs.Words.{words}
use Rattle.sat_lrat.specs.Text.{lemma_after}
use Rattle.sat_lrat.proofs.words.read_lemma.Given as goal

abbrev pub invariant-loop-word : goal.invariant-loop-word
invariant-loop-word l = lemma_after l.cut l.id l.clause (words l.rest) ≡ lemma_after l.cut l.id [] (words l.line)

abbrev pub decreases-loop-word : goal.decreases-loop-word
decreases-loop-word l = length l.rest
