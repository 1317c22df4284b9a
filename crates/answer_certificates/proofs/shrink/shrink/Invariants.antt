use Rattle.answer_certificates.specs.Core.{IsLeft}
use Rattle.answer_certificates.specs.Parts.{AreNeededBelow}
use Rattle.answer_certificates.proofs.shrink.shrink.Given as goal

abbrev pub invariant-loop-fact : goal.invariant-loop-fact
invariant-loop-fact g l = record {
  left : IsLeft l.question.target.now l.question.first l.question.facts l.question.limits.now l.question.budget l.rest;
  needed : AreNeededBelow l.question.target.now l.question.first l.question.limits.now l.rest.dropped.items l.fact;
}
