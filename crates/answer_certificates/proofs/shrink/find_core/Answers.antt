use Rattle.std.proofs.Common.{[], refl, subst, arith}
use Rattle.answer_search.specs.Clauses.{SaysTargetWithin}
use Rattle.answer_search.specs.Found.{IsFoundWithin}
use Rattle.answer_certificates.proofs.ShrunkLaw.{shrunk_core}
use Rattle.answer_certificates.proofs.Staying.{whole_part}
use Rattle.answer_certificates.proofs.shrink.find_core.Goals as goal

pub returns-in-Trace : goal.returns-in-Trace
returns-in-Trace g c =
    let limits = c.args.bounds.now in
    let found = subst (IsFoundWithin limits.states c.args.budget) c.in-Trace.is c.in_ok-lasso.ensures.found in
    let says = subst (SaysTargetWithin c.args.target.now limits) c.in-Trace.is c.in_ok-lasso.ensures.says in
    (found.0, found.1, says)

pub returns-in-Unknown : goal.returns-in-Unknown
returns-in-Unknown g c =
    let target = c.args.target.now in
    let limits = c.args.bounds.now in
    let found = subst (IsFoundWithin limits.states c.args.budget) c.in-Unknown.is c.in_ok-lasso.ensures.found in
    let says = subst (SaysTargetWithin target limits) c.in-Unknown.is c.in_ok-lasso.ensures.says in
    (found, record { dropped = []; few = omega arith; said = record { part = target; is_part = whole_part target c.args.first_fact 0 [] refl; says = says.0 } }, says.1)

pub returns-in_ok-core-in-Refuted : goal.returns-in_ok-core-in-Refuted
returns-in_ok-core-in-Refuted g c = shrunk_core c.args.target.now c.args.first_fact c.args.facts c.args.bounds.now c.args.budget c.in_ok-core-in-Refuted.core c.in_ok-core-in-Refuted.ensures
