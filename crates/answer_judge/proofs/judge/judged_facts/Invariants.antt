use Rattle.std.proofs.Common.{take}
use Rattle.answer_judge.specs.Judged.{AreJudged}
use Rattle.answer_judge.proofs.judge.judged_facts.Given as goal

abbrev pub invariant-loop-fact : goal.invariant-loop-fact
invariant-loop-fact l = AreJudged l.ready l.lasso l.judged (take l.fact-index l.facts)
