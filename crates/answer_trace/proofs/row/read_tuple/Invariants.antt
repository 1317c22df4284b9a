use Rattle.std.proofs.Common.{◌≡◌, ◌-◌, length, All}
use Rattle.core_tuples.specs.Index.{IsNumber}
use Rattle.answer_trace.specs.Reading.{further_atoms, next_tuple}
use Rattle.answer_trace.proofs.row.read_tuple.Given as goal

abbrev pub invariant-loop-column : goal.invariant-loop-column
invariant-loop-column l =
    record {
      columns : length l.tuple ≡ l._column;
      numbers : All IsNumber l.tuple;
      way : further_atoms l.index (l.columns - l._column) l.tuple l.rest ≡ next_tuple l.index l.columns l.text;
    }
