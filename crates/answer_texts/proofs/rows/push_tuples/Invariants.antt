use Rattle.std.proofs.Common.{◌≡◌, ◌++◌, drop}
use Rattle.answer_texts.specs.Table.{tuple_rows}
use Rattle.answer_texts.proofs.rows.push_tuples.Given as goal

-- the rows so far and those of what is left are all rows
abbrev pub invariant-loop-tuple : goal.invariant-loop-tuple
invariant-loop-tuple l = l.table ++ tuple_rows l.atoms l.label l.number l.state (drop l.tuple-index l.tuples) ≡ l.initial.table ++ tuple_rows l.atoms l.label l.first l.state l.tuples
