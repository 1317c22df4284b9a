use Rattle.answer_judge.proofs.JudgeLaw.{satisfied_is}
use Rattle.answer_judge.proofs.judge.judged_text.Goals as goal

pub returns : goal.returns
returns c = record {
  lasso = c.args.lasso.now;
  fits = c.requires.fits;
  spelled = c.requires.spelled;
  judgement = c.in_ok-judgement.judgement;
  right = c.in_ok-judgement.ensures;
  text_is = cc (c.from_vec-shown.ensures, c.in_ok-text.ensures);
  all_hold = c.is_satisfied-satisfied.ensures;
  satisfies = satisfied_is c.args.ready.now c.args.lasso.now c.in_ok-judgement.judgement c.in_ok-judgement.ensures c.is_satisfied-satisfied.result c.is_satisfied-satisfied.ensures;
}
