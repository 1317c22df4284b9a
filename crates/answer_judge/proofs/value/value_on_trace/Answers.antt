use Rattle.core_tree.specs.Trees.{term_of}
use Rattle.answer_judge.proofs.JudgeLaw.{not_valued}
use Rattle.answer_judge.proofs.value.value_on_trace.Goals as goal

pub returns-in_ok-answer-in-Err : goal.returns-in_ok-answer-in-Err
returns-in_ok-answer-in-Err c = not_valued c.args.ready.now (term_of c.args.value.now) c.args.position c.args.trace.now c.in_ok-answer-in-Err.answer c.in_ok-answer-in-Err.ensures

pub valued-requires-clause-fits : goal.valued-requires-clause-fits
valued-requires-clause-fits c = c.read_lassos_are_of_the_labels.ensures c.args.ready.now.labels c.args.trace.now c.in-Ok.lasso c.requires c.in-Ok.ensures.read
