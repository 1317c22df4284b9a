use Rattle.std.proofs.Common.{◌≡◌, ◌++◌}
use Rattle.answer_texts.specs.Kept.{kept_first}
use Rattle.answer_texts.specs.Table.{rows_before}
use Rattle.answer_texts.proofs.rows.push_states.Given as goal

abbrev pub invariant-loop-state : goal.invariant-loop-state
invariant-loop-state l = l.table ≡ l.initial.table ++ rows_before (kept_first l.layout) l.labels l.bounds l.state
