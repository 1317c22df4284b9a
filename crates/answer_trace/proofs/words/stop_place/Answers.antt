use Rattle.std.proofs.Common.{arith}
use Rattle.answer_trace.specs.Reading.{is_stop}
use Rattle.answer_trace.proofs.Nowhere.{nowhere}
use Rattle.answer_trace.proofs.words.stop_place.Goals as goal

pub returns-clause-place : goal.returns-clause-place
returns-clause-place c = nowhere is_stop c.args.text.now c.loop-place.place 0 (omega arith) c.loop-place.invariant
