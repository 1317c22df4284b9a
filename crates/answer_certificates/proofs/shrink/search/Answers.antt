use Rattle.answer_certificates.proofs.Staying.{searched_for}
use Rattle.answer_certificates.proofs.shrink.search.Goals as goal

pub returns-clause-part : goal.returns-clause-part
returns-clause-part g c =
    searched_for c.args.question.now.target.now c.in_ok-part.part c.args.question.now.first c.args.question.now.limits.now c.args.dropped.now c.in_ok-found.found c.in_ok-part.ensures c.in_ok-found.ensures.says c.in_ok-found.ensures.none
