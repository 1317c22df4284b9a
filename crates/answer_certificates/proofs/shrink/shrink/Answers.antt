use Rattle.std.proofs.Common.{subst}
use Rattle.answer_certificates.specs.Core.{GoesOnFrom, IsTried}
use Rattle.answer_certificates.proofs.Needing.{needed_more}
use Rattle.answer_certificates.proofs.shrink.shrink.Goals as goal

pub loop-fact-preserved : goal.loop-fact-preserved
loop-fact-preserved g c =
    let question = c.args.question.now in
    let rest = c.loop-fact.rest.dropped.items in
    let tried = subst (IsTried question.target.now question.first question.facts question.limits.now question.budget) c.in-Left.is c.in_ok-smaller.ensures.tried in
    let goes = subst (GoesOnFrom question.target.now question.first question.limits.now c.loop-fact.fact rest) c.in-Left.is c.in_ok-smaller.ensures.goes_on in
    record {
      left = tried;
      needed = needed_more question.target.now question.first question.limits.now c.loop-fact.fact rest c.in-Left.smaller.dropped.items goes c.loop-fact.invariant.needed;
    }
