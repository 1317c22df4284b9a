use Rattle.answer_judge.proofs.judge.judged_fact.Goals as goal

pub returns : goal.returns
returns c = (c.in_ok-name.ensures, c.in_ok-holds.ensures)
