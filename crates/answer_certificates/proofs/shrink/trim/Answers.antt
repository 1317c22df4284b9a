use Rattle.std.proofs.Common.{◌≡◌, length, subst, rules}
use Rattle.answer_search.specs.Found.{IsFoundWithin}
use Rattle.answer_certificates.specs.Core.{IsSearchedFor}
use Rattle.answer_certificates.proofs.shrink.trim.Goals as goal

pub returns-in-Unknown : goal.returns-in-Unknown
returns-in-Unknown g c =
    let question = c.args.question.now in
    let flags = c.deref.result.now in
    let found = subst (IsFoundWithin question.limits.now.states question.budget) c.in-Unknown.is c.in_ok-smaller.ensures.found in
    let part = subst (IsSearchedFor question.target.now question.first question.limits.now flags) c.in-Unknown.is c.in_ok-smaller.ensures.part in
    let count : length c.deref.result.now ≡ c.args.question.now.facts = search rules in
    (found, part.1, flags, part.0, count)
