use Rattle.cli_run.proofs.Ends.{right}
use Rattle.cli_run.proofs.run.run_words.Goals as goal

pub returns-clause-right : goal.returns-clause-right
returns-clause-right g c =
    let justified = rw c.len.ensures at c.answer_from_boxes-answered.ensures.allowed in
    right _ _ justified c.finish.ensures c.answer_from_boxes-answered.ensures.later
