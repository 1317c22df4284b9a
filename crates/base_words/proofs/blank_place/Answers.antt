use Rattle.std.proofs.Common.{arith}
use Rattle.base_words.specs.Words.{is_blank}
use Rattle.base_words.proofs.Parts.{nowhere}
use Rattle.base_words.proofs.blank_place.Goals as goal

pub returns-clause-place : goal.returns-clause-place
returns-clause-place c = nowhere is_blank c.args.line.now c.loop-place.place (omega arith) c.loop-place.invariant
