use Rattle.std.proofs.Common.{subst}
use Rattle.resolve_told.specs.Commands.{Declares}
use Rattle.resolve_told.proofs.asked.assertion_at.Goals as goal

pub returns-in-Some-clause-marked : goal.returns-in-Some-clause-marked
returns-in-Some-clause-marked c = c.is_marked.ensures c.if-not-is_marked.false

pub returns-in-Some-clause-there : goal.returns-in-Some-clause-there
returns-in-Some-clause-there c = record {
  instance = c.get-instance.result.now;
  there = c.get-instance.ensures;
  declared = subst (λ ps. Declares ps c.args.text.now c.in-Some.claim.now) c.in_ok-paragraphs.ensures c.in-Some.ensures;
}
