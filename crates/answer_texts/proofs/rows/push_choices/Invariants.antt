use Rattle.std.proofs.Common.{◌≡◌, ◌++◌}
use Rattle.answer_texts.specs.Table.{loop_rows}
use Rattle.answer_texts.proofs.rows.push_choices.Given as goal

abbrev pub invariant-loop-state : goal.invariant-loop-state
invariant-loop-state l = l.table ≡ l.initial.table ++ loop_rows l.first l.state
