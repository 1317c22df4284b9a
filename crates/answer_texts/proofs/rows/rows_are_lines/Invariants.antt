use Rattle.std.proofs.Common.{take}
use Rattle.answer_texts.specs.Table.{AreLines}
use Rattle.answer_texts.proofs.rows.rows_are_lines.Given as goal

abbrev pub invariant-loop-row : goal.invariant-loop-row
invariant-loop-row l = AreLines (take l.row-index l.rows)
