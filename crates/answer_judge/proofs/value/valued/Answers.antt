use Rattle.answer_judge.proofs.value.valued.Goals as goal

pub returns : goal.returns
returns c = record {
  lasso = c.args.lasso.now;
  fits = c.requires.fits;
  spelled = c.requires.spelled;
  set = c.in_ok-set.set;
  sorted = c.arity.ensures.set;
  has = c.in_ok-set.ensures;
  text_is = cc (c.from_vec-shown.ensures, c.in_ok-text.ensures);
}
