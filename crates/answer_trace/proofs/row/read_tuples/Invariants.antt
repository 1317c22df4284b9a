use Rattle.std.proofs.Common.{◌≡◌, ◌-◌, [], length}
use Rattle.answer_trace.specs.Reading.{tuples_of}
use Rattle.answer_trace.proofs.row.read_tuples.Given as goal

abbrev pub invariant-loop-count : goal.invariant-loop-count
invariant-loop-count l =
    record {
      arity : l.set.arity ≡ l.columns;
      way : tuples_of l.index l.columns (length l.text - l._count) l.set.tuples l.rest ≡ tuples_of l.index l.columns (length l.text) [] l.text;
    }
