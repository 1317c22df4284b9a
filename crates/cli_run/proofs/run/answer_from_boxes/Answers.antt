use Rattle.cli_run.proofs.run.answer_from_boxes.Goals as goal

pub returns-clause-allowed : goal.returns-clause-allowed
returns-clause-allowed g c = rw c.replace.ensures.value at c.answer-answered.ensures.allowed
