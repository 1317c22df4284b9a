use Rattle.std.proofs.Common.{subst}
use Rattle.answer_search.specs.Clauses.{RulesOut, SaysTargetWithin}
use Rattle.answer_search.specs.Found as target
use Rattle.answer_analysis.proofs.search.search_prepared.Goals as goal

pub returns-in-Trace : goal.returns-in-Trace
returns-in-Trace g c = c.trace_of.ensures c.args.budget

pub returns-in-Unknown : goal.returns-in-Unknown
returns-in-Unknown g c =
    let p = c.args.prepared in
    let found = subst (target.IsFoundWithin p.ready.bounds.states c.args.budget) c.in-Unknown.is c.in_ok-found.ensures.found in
    let says = subst (SaysTargetWithin p.target p.ready.bounds) c.in-Unknown.is c.in_ok-found.ensures.says in
    c.unknown_of.ensures c.args.budget found says

pub returns-in-Refuted : goal.returns-in-Refuted
returns-in-Refuted g c =
    let p = c.args.prepared in
    let found = subst (target.IsFoundWithin p.ready.bounds.states c.args.budget) c.in-Refuted.is c.in_ok-found.ensures.found in
    let says = subst (SaysTargetWithin p.target p.ready.bounds) c.in-Refuted.is c.in_ok-found.ensures.says in
    let none = subst (RulesOut p.target p.ready.bounds) c.in-Refuted.is c.in_ok-found.ensures.none in
    c.refuted_of.ensures c.args.budget found says none
