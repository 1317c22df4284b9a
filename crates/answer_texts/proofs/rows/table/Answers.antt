use Rattle.std.proofs.Common.{List, ℕ, ◌++◌, ap, ◌∙◌}
use Rattle.answer_texts.specs.Kept.{kept_first}
use Rattle.answer_texts.specs.Table.{loops_after, rows_before}
use Rattle.answer_texts.proofs.TableRows.{same_rows}
use Rattle.answer_texts.proofs.rows.table.Goals as goal

pub returns : goal.returns
returns c laid = record {
  lines = c.are_lines.ensures;
  rows = λ table.
      let bounds = c.args.bounds.now in
      let kept = c.args.layout.now in
      c.in_ok-push_loops.ensures
      ∙ ap (λ (rows : List (List ℕ)). rows ++ loops_after kept.loops bounds.states) (c.in_ok-push_states.ensures ∙ ap (λ (rows : List (List ℕ)). rows ++ rows_before (kept_first kept) c.args.labels.now bounds bounds.states) c.new-rows.ensures)
      ∙ same_rows c.args.labels.now bounds kept (laid table);
}
