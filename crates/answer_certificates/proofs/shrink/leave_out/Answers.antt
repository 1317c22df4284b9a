use Rattle.std.proofs.Common.{◌≡◌, ◌∙◌, List, Bool, ap, length, subst}
use Rattle.answer_search.specs.Found.{IsFoundWithin}
use Rattle.answer_certificates.specs.Core.{IsSearchedFor}
use Rattle.answer_certificates.specs.Parts.{is_out, IsMetFor}
use Rattle.answer_certificates.proofs.Needing.{is_needed}
use Rattle.answer_certificates.proofs.shrink.leave_out.Goals as goal

pub returns-in-Unknown-clause-tried : goal.returns-in-Unknown-clause-tried
returns-in-Unknown-clause-tried g c =
    let question = c.args.question.now in
    let flags = c.deref-3.result.now in
    let found = subst (IsFoundWithin question.limits.now.states question.budget) c.in-Unknown.is c.in_ok-proof.ensures.found in
    let part = subst (IsSearchedFor question.target.now question.first question.limits.now flags) c.in-Unknown.is c.in_ok-proof.ensures.part in
    (found, part.1, flags, part.0, ap length c.deref-3.ensures.value ∙ (c.in_ok-dropped.ensures.count ∙ (ap length c.deref-2.ensures.value ∙ c.requires.left.0)))

pub returns-in-Trace-clause-goes_on : goal.returns-in-Trace-clause-goes_on
returns-in-Trace-clause-goes_on g c =
    let question = c.args.question.now in
    let flags = c.deref-3.result.now in
    let part = subst (IsSearchedFor question.target.now question.first question.limits.now flags) c.in-Trace.is c.in_ok-proof.ensures.part in
    let met = subst (IsMetFor question.target.now question.first question.limits.now) c.deref-3.ensures.value part in
    is_needed question.target.now question.first question.limits.now c.args.fact c.args.left.dropped.items c.in_ok-dropped.dropped.items
    (λ k apart. c.in_ok-dropped.ensures.others k apart ∙ ap (λ (x : List Bool). is_out x k) c.deref-2.ensures.value) met
