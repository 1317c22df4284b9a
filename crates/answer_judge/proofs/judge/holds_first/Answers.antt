use Rattle.answer_judge.proofs.judge.holds_first.Goals as goal

pub returns : goal.returns
returns c = c.holds.ensures
