use Rattle.std.proofs.Common.{◌≡◌, ◌-◌, [], length}
use Rattle.base_words.specs.Words.{parts}
use Rattle.answer_trace.specs.Reading.{states_way}
use Rattle.answer_trace.proofs.read.read_states.Given as goal

abbrev pub invariant-loop-number : goal.invariant-loop-number
invariant-loop-number l =
    record {
      count : length l.states.items ≡ l.number;
      way : states_way l.labels (l.count - l.number) l.states.items l.number (parts l.left.bytes) l.left.lines ≡ states_way l.labels l.count [] 0 (parts l.fn.left.bytes) l.fn.left.lines;
    }
