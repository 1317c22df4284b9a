use Rattle.answer_judge.proofs.JudgeLaw.{not_judged}
use Rattle.answer_judge.proofs.judge.judge_trace.Goals as goal

pub returns-in_ok-answer-in-Err : goal.returns-in_ok-answer-in-Err
returns-in_ok-answer-in-Err c = not_judged c.args.ready.now c.args.trace.now c.in_ok-answer-in-Err.answer c.in_ok-answer-in-Err.ensures

pub judged_text-requires-clause-fits : goal.judged_text-requires-clause-fits
judged_text-requires-clause-fits c = c.read_lassos_are_of_the_labels.ensures c.args.ready.now.labels c.args.trace.now c.in-Ok.lasso c.requires c.in-Ok.ensures.read
