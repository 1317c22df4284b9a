use Rattle.std.proofs.Common.{subst}
use Rattle.answer_judge.specs.Judged.{AreJudged}
use Rattle.answer_judge.proofs.judge.judgement_on.Goals as goal

pub returns : goal.returns
returns c = record {
  command = c.get-asked.result.now;
  chosen = c.get-asked.ensures;
  scopes_are = c.in_ok-scopes.ensures;
  declared = c.in_ok-broken_at.ensures;
  facts_are = subst (AreJudged c.args.ready.now c.args.lasso.now c.in_ok-facts.facts) c.as_slice.ensures c.in_ok-facts.ensures;
  command_is = c.in_ok-command.ensures;
}
