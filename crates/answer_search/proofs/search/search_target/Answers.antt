use Rattle.std.proofs.Common.{subst}
use Rattle.answer_search.specs.Clauses.{RulesOut, SaysTarget}
use Rattle.answer_search.specs.Found.{IsFound}
use Rattle.answer_search.proofs.search.search_target.Goals as goal

pub returns-in_ok-short-in-Trace-clause-says : goal.returns-in_ok-short-in-Trace-clause-says
returns-in_ok-short-in-Trace-clause-says g c = λ is.
    let says = subst (SaysTarget c.args.target.now c.args.bounds.now) c.in-Trace.is c.in_ok-lasso.ensures.says in
    (c.in-Trace.lasso, says is, c.in_ok-short-in-Trace.ensures.same)

pub returns-in-Unknown-clause-found : goal.returns-in-Unknown-clause-found
returns-in-Unknown-clause-found g c = subst (IsFound c.args.bounds.now.states c.args.budget) c.in-Unknown.is c.in_ok-lasso.ensures.found

pub returns-in-Unknown-clause-says : goal.returns-in-Unknown-clause-says
returns-in-Unknown-clause-says g c = subst (SaysTarget c.args.target.now c.args.bounds.now) c.in-Unknown.is c.in_ok-lasso.ensures.says

pub returns-in-Refuted-clause-found : goal.returns-in-Refuted-clause-found
returns-in-Refuted-clause-found g c = subst (IsFound c.args.bounds.now.states c.args.budget) c.in-Refuted.is c.in_ok-lasso.ensures.found

pub returns-in-Refuted-clause-says : goal.returns-in-Refuted-clause-says
returns-in-Refuted-clause-says g c = subst (SaysTarget c.args.target.now c.args.bounds.now) c.in-Refuted.is c.in_ok-lasso.ensures.says

pub returns-in-Refuted-clause-none : goal.returns-in-Refuted-clause-none
returns-in-Refuted-clause-none g c = subst (RulesOut c.args.target.now c.args.bounds.now) c.in-Refuted.is c.in_ok-lasso.ensures.none
