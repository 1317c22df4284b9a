use Rattle.std.proofs.Common.{◌+◌, List, arith, sym, subst, take}
use Rattle.answer_texts.specs.declared.judgement.JudgedFact.{JudgedFact}
use Rattle.std.proofs.lemmas.List.{take_all}
use Rattle.answer_judge.specs.Judged.{AreJudged, IsJudgedFact}
use Rattle.answer_judge.proofs.JudgeLaw.{judged_next}
use Rattle.core_tree.specs.declared.model.Fact.{Fact as FactOf}
use Rattle.answer_judge.proofs.judge.judged_facts.Goals as goal

pub loop-fact-preserved : goal.loop-fact-preserved
loop-fact-preserved c =
    subst (λ (js : List JudgedFact). AreJudged c.args.ready.now c.args.lasso.now js (take (c.loop-fact.fact-index + 1) c.args.facts.now)) (sym c.in_ok-push.ensures.ok)
    (judged_next c.args.ready.now c.args.lasso.now c.loop-fact.judged c.args.facts.now c.loop-fact.fact-index c.fact-item.result c.in_ok-more.more (omega (arith, c.loop-fact-test.true)) c.loop-fact.invariant (subst (λ (p : FactOf). IsJudgedFact c.args.ready.now c.args.lasso.now c.in_ok-more.more p) c.fact-item.is c.in_ok-more.ensures))

pub returns : goal.returns
returns c =
    subst (AreJudged c.args.ready.now c.args.lasso.now c.loop-fact.judged) (take_all c.loop-fact.fact-index c.args.facts.now (omega (arith, c.loop-fact-test.false))) c.loop-fact.invariant
