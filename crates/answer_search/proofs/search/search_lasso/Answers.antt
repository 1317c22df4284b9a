use Rattle.std.proofs.Common.{◌≡◌, ◌∙◌, ℕ, Some, length, sym, subst, refl}
use Rattle.sat_lrat.specs.Outcome.{Answers}
use Rattle.sat_lrat.specs.Spent.{Spends}
use Rattle.sat_lemmas.specs.Outcome.{IsAnswer}
use Rattle.sat_solver.specs.Turn.{AreFew, AreNewIn}
use Rattle.answer_search.proofs.MetLaw.{solution_meets}
use Rattle.answer_search.proofs.NewLaw.{part_new_within}
use Rattle.answer_search.proofs.NoneLaw.{ruled_out}
use Rattle.answer_search.proofs.search.search_lasso.Goals as goal

pub returns-in-Spent-clause-found : goal.returns-in-Spent-clause-found
returns-in-Spent-clause-found g c =
    let cnf = c.in_ok-cnf.cnf in
    let lines = c.in-Spent.lines in
    let lemmas = subst (IsAnswer cnf.variables cnf.clauses c.args.budget) c.in-Spent.is c.in_ok-assignment.ensures.answer in
    let spends = subst (Answers cnf.variables cnf.clauses c.args.budget) c.in-Spent.is c.in_ok-assignment.ensures.spends in
    let few = subst (AreFew cnf.variables c.args.budget) c.in-Spent.is c.in_ok-assignment.ensures.few in
    let both : Some spends.0 ≡ Some (length lines) = sym spends.1 ∙ lemmas.0 in
    let same : spends.0 ≡ length lines = cc in (refl, (lemmas.0, subst (λ (n : ℕ). Spends cnf.clauses n lines) same spends.2, few))

pub returns-in-Spent-clause-says : goal.returns-in-Spent-clause-says
returns-in-Spent-clause-says g c = (c.in_ok-cnf.ensures.says c.in_ok-layout.ensures.exact, c.in_ok-layout.ensures.exact)

pub returns-in_ok-lasso-in-Assignment-clause-says : goal.returns-in_ok-lasso-in-Assignment-clause-says
returns-in_ok-lasso-in-Assignment-clause-says g c = λ is.
    let cnf = c.in_ok-cnf.cnf in
    let solution = subst (IsAnswer cnf.variables cnf.clauses c.args.budget) c.in-Assignment.is c.in_ok-assignment.ensures.answer in
    let found = c.in_ok-lasso-in-Assignment.ensures in
    solution_meets c.args.target.now c.args.bounds.now cnf c.in-Assignment.assignment c.in_ok-lasso-in-Assignment.lasso c.values_tell.ensures.one_loop c.values_tell.ensures.decoded (c.in_ok-cnf.ensures.says c.in_ok-layout.ensures.exact) solution is (found.candidate (c.in_ok-layout.ensures.exact is)) (found.agrees (c.in_ok-layout.ensures.exact is))

pub returns-in_ok-rest-in-Refutation-clause-says : goal.returns-in_ok-rest-in-Refutation-clause-says
returns-in_ok-rest-in-Refutation-clause-says g c = (c.in_ok-cnf.ensures.says c.in_ok-layout.ensures.exact, c.in_ok-layout.ensures.exact)

pub returns-in_ok-rest-in-Refutation-clause-found : goal.returns-in_ok-rest-in-Refutation-clause-found
returns-in_ok-rest-in-Refutation-clause-found g c =
    let cnf = c.in_ok-cnf.cnf in
    let refutes = subst (IsAnswer cnf.variables cnf.clauses c.args.budget) c.in-Refutation.is c.in_ok-assignment.ensures.answer in
    let fresh = subst (AreNewIn cnf.clauses) c.in-Refutation.is c.in_ok-assignment.ensures.fresh in
    let few = subst (AreFew cnf.variables c.args.budget) c.in-Refutation.is c.in_ok-assignment.ensures.few in (
      refl,
      c.in_ok-rest-in-Refutation.ensures.refutes refutes,
      part_new_within c.args.budget cnf.clauses c.in_ok-rest-in-Refutation.rest c.in-Refutation.lines c.in_ok-rest-in-Refutation.ensures.part c.in_ok-rest-in-Refutation.ensures.few (fresh c.in_ok-cnf.ensures.filled) few,
    )

pub returns-in_ok-rest-in-Refutation-clause-none : goal.returns-in_ok-rest-in-Refutation-clause-none
returns-in_ok-rest-in-Refutation-clause-none g c =
    let refutes = subst (IsAnswer c.in_ok-cnf.cnf.variables c.in_ok-cnf.cnf.clauses c.args.budget) c.in-Refutation.is c.in_ok-assignment.ensures.answer in
    ruled_out c.args.target.now c.args.bounds.now c.in_ok-cnf.cnf c.in-Refutation.lines c.refutation_is_sound.ensures c.candidates_have_canonical.ensures c.have_sets.ensures (c.in_ok-cnf.ensures.says c.in_ok-layout.ensures.exact) refutes
