use Rattle.cli_model.proofs.traced.asked_question.Goals as goal

pub returns-in-Eval-clause-refused : goal.returns-in-Eval-clause-refused
returns-in-Eval-clause-refused c refusal is = record {
  mode = c.in-Eval.is;
  expression = c.in-Some.expression;
  given = cc c.in-Some.is;
  ready = c.args.ready.now;
  made = c.requires;
  breaks = c.value_asked.ensures.refused refusal is;
}

pub returns-in-Eval-clause-asked : goal.returns-in-Eval-clause-asked
returns-in-Eval-clause-asked c value is = record {
  expression = c.in-Some.expression;
  is = cc c.in-Some.is;
  says = c.value_asked.ensures.says value is;
}
