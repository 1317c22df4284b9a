use Rattle.std.proofs.Common.{ℕ, ◌-◌, ◌≤◌, List, length, refl, sym, subst, arith}
use Rattle.core_meaning.specs.declared.scopes.Scopes.{Scopes}
use Rattle.bound_uppers.specs.declared.table.Bound.{Bound}
use Rattle.bound_uppers.specs.Table.{bounds_over}
use Rattle.answer_analysis.specs.Found.{IsTraceOf}
use Rattle.answer_texts.specs.Table.{IsTableOf}
use Rattle.answer_certificates.specs.Least.{IsLeast}
use Rattle.answer_certificates.specs.Certificate.{HasFewStates, IsNoneText, IsSpentText, NoneBelow, SayOverStates, ShowsBelow, StandsBelow}
use Rattle.answer_certificates.proofs.LeastLaw.{below_stands, laid_over, none_over, trace_above}
use Rattle.answer_certificates.proofs.least.least_in.Goals as goal

pub returns-in_ok-text-in-Refuted : goal.returns-in_ok-text-in-Refuted
returns-in_ok-text-in-Refuted g c =
    let p = c.args.prepared.now in
    let proof = c.in-Refuted.proof in
    let found = subst (IsLeast p.target p.ready.bounds.relations c.args.budget) c.in-Refuted.is c.in_ok-found.ensures.least in
    let says = subst (λ (n : ℕ). SayOverStates p n proof.cnf) (sym found.0.0) found.2.0 in
    let shows = subst (λ (bs : List Bound). IsNoneText (IsTableOf p.ready.labels (bounds_over bs proof.states)) proof.cnf proof.states c.args.budget c.args.part c.in_ok-text-in-Refuted.text) c.find_least.ensures.relations
    (c.in_ok-text-in-Refuted.ensures c.args.budget found.0.2) in
    (proof.states, record { cnf = proof.cnf; says = says; shows = shows }, none_over p c.args.budget proof c.ruled_out_means_none.ensures found.0 found.1)

pub returns-in_ok-text-in-Unknown : goal.returns-in_ok-text-in-Unknown
returns-in_ok-text-in-Unknown g c =
    let p = c.args.prepared.now in
    let proof = c.in-Unknown.proof in
    let found = subst (IsLeast p.target p.ready.bounds.relations c.args.budget) c.in-Unknown.is c.in_ok-found.ensures.least in
    let below : NoneBelow p proof.states = λ more number made. c.ruled_out_means_none.ensures number p (proof.states - 1) made (omega (arith, more)) (found.4 more) in
    let shows = subst (λ (bs : List Bound). IsSpentText (IsTableOf p.ready.labels (bounds_over bs proof.states)) proof.cnf c.args.budget c.in_ok-text-in-Unknown.text) c.find_least.ensures.relations c.in_ok-text-in-Unknown.ensures in
    (proof.states, found.0, found.1, below, record { cnf = proof.cnf; says = found.3.0; shows = shows })

pub returns-in_ok-text-in-Trace : goal.returns-in_ok-text-in-Trace
returns-in_ok-text-in-Trace g c =
    let p = c.args.prepared.now in
    let lasso = c.in-Trace.lasso in
    let found = subst (IsLeast p.target p.ready.bounds.relations c.args.budget) c.in-Trace.is c.in_ok-found.ensures.least in
    let seen = c.in_ok-test_trace-in-Trace.ensures in
    let trace : IsTraceOf p.ready lasso = record { command = seen.trace.command; chosen = seen.trace.chosen; satisfies = seen.trace.satisfies } in
    let few : HasFewStates p lasso = λ number made. subst (λ (s : Scopes). length lasso.states ≤ s.states) made.scoped found.0 in
    let shown = subst (λ (bs : List Bound). ShowsBelow p.ready.labels bs lasso c.in-Trace.below c.args.part c.in_ok-text-in-Trace.text) c.find_least.ensures.relations c.in_ok-text-in-Trace.ensures in
    trace_above p c.args.budget c.args.part lasso c.in-Trace.below c.in_ok-text-in-Trace.text c.ruled_out_means_none.ensures trace seen.fits few found.1 shown

pub least_shown-requires : goal.least_shown-requires
least_shown-requires g c =
    let p = c.args.prepared.now in
    let found = subst (IsLeast p.target p.ready.bounds.relations c.args.budget) c.in-Trace.is c.in_ok-found.ensures.least in
    subst (λ (bs : List Bound). StandsBelow bs c.in-Trace.below) (sym c.find_least.ensures.relations) (below_stands p.target p.ready.bounds.relations c.args.budget (length c.in-Trace.lasso.states) c.in-Trace.below found.1)

pub none_shown-requires-clause-laid : goal.none_shown-requires-clause-laid
none_shown-requires-clause-laid g c =
    let p = c.args.prepared.now in
    let proof = c.in-Refuted.proof in
    let found = subst (IsLeast p.target p.ready.bounds.relations c.args.budget) c.in-Refuted.is c.in_ok-found.ensures.least in
    laid_over c.find_least.new.bounds.relations p.ready.bounds.relations proof.states p.target.scopes.states proof.layout c.find_least.ensures.relations found.0.0 found.2.1

pub spent_shown-requires-clause-laid : goal.spent_shown-requires-clause-laid
spent_shown-requires-clause-laid g c =
    let p = c.args.prepared.now in
    let proof = c.in-Unknown.proof in
    let found = subst (IsLeast p.target p.ready.bounds.relations c.args.budget) c.in-Unknown.is c.in_ok-found.ensures.least in
    laid_over c.find_least.new.bounds.relations p.ready.bounds.relations proof.states proof.states proof.layout c.find_least.ensures.relations refl found.3.1

pub none_shown-requires-clause-refutes : goal.none_shown-requires-clause-refutes
none_shown-requires-clause-refutes g c =
    let p = c.args.prepared.now in
    (subst (IsLeast p.target p.ready.bounds.relations c.args.budget) c.in-Refuted.is c.in_ok-found.ensures.least).0.1

pub spent_shown-requires-clause-spends : goal.spent_shown-requires-clause-spends
spent_shown-requires-clause-spends g c =
    let p = c.args.prepared.now in
    (subst (IsLeast p.target p.ready.bounds.relations c.args.budget) c.in-Unknown.is c.in_ok-found.ensures.least).2.1
