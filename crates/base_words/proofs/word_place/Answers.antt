use Rattle.std.proofs.Common.{ap, not, arith}
use Rattle.base_words.specs.Words.{is_blank}
use Rattle.base_words.proofs.Parts.{nowhere}
use Rattle.base_words.proofs.word_place.Goals as goal

pub returns-clause-place : goal.returns-clause-place
returns-clause-place c = nowhere (λ byte. not (is_blank byte)) c.args.line.now c.loop-place.place (omega arith) (λ k h. ap not (c.loop-place.invariant k h))
