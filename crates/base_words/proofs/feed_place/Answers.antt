use Rattle.std.proofs.Common.{arith}
use Rattle.base_words.specs.Words.{is_feed}
use Rattle.base_words.proofs.Parts.{nowhere}
use Rattle.base_words.proofs.feed_place.Goals as goal

pub returns-clause-place : goal.returns-clause-place
returns-clause-place c = nowhere is_feed c.args.text.now c.loop-place.place (omega arith) c.loop-place.invariant
