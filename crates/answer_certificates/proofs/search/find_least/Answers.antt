use Rattle.std.proofs.Common.{◌≡◌, ◌+◌, ◌-◌, ◌<◌, ◌≤◌, ℕ, length, refl, sym, subst, arith}
use Rattle.bound_uppers.specs.Table.{IsTable, bounds_over}
use Rattle.answer_search.specs.Clauses.{IsProofOf, IsRuledOut, MeetsWithin, RulesOut, SaysTarget}
use Rattle.answer_search.specs.Found.{IsFound}
use Rattle.answer_certificates.specs.Least.{IsBelow}
use Rattle.answer_certificates.proofs.LeastLaw.{of_found, ruled_below}
use Rattle.answer_certificates.proofs.search.find_least.Goals as goal

pub loop-fewer-init : goal.loop-fewer-init
loop-fewer-init g c = record { below = refl; relations = refl }

pub returns-in-Trace-clause-least : goal.returns-in-Trace-clause-least
returns-in-Trace-clause-least g c =
    let states = c.loop-fewer.fewer + 1 in
    let target = c.args.target.now in
    let relations = c.args.bounds.now.relations in
    let lasso = c.in-Trace.lasso in
    let says = of_found (SaysTarget target) c.loop-fewer.bounds.relations relations states _ _ c.in-Trace.is c.loop-fewer.invariant.relations c.in_ok-lasso.ensures.says in
    let count : length lasso.states ≡ c.loop-fewer.fewer + 1 = subst (IsFound states c.args.budget) c.in-Trace.is c.in_ok-lasso.ensures.found in (
      omega (arith, count, c.loop-fewer-test.true),
      subst (λ (n : ℕ). IsBelow target relations c.args.budget n c.loop-fewer.below) (sym count) c.loop-fewer.invariant.below,
      subst (λ (n : ℕ). IsTable (bounds_over relations n) → MeetsWithin target (bounds_over relations n) lasso) (sym count) says,
    )

pub loop-fewer-preserved : goal.loop-fewer-preserved
loop-fewer-preserved g c =
    let states = c.loop-fewer.fewer + 1 in
    let target = c.args.target.now in
    let relations = c.args.bounds.now.relations in
    let proof = c.in-Refuted.proof in
    let kept = c.loop-fewer.invariant.relations in
    let refuted = subst (IsFound states c.args.budget) c.in-Refuted.is c.in_ok-lasso.ensures.found in
    let count = refuted.0 in
    let ruled = of_found (RulesOut target) c.loop-fewer.bounds.relations relations states _ _ c.in-Refuted.is kept c.in_ok-lasso.ensures.none in
    let says = of_found (SaysTarget target) c.loop-fewer.bounds.relations relations states _ _ c.in-Refuted.is kept c.in_ok-lasso.ensures.says in
    record {
      below = (
        omega (arith, count),
        omega (arith, count),
        (refl, refuted.1, refuted.2),
        subst (λ (n : ℕ). IsRuledOut target (bounds_over relations n)) (sym count) ruled,
        subst (λ (n : ℕ). IsProofOf target (bounds_over relations n) proof) (sym count) says,
      );
      relations = kept;
    }

pub returns-in-Unknown-clause-least : goal.returns-in-Unknown-clause-least
returns-in-Unknown-clause-least g c =
    let states = c.loop-fewer.fewer + 1 in
    let target = c.args.target.now in
    let relations = c.args.bounds.now.relations in
    let proof = c.in-Unknown.proof in
    let spent = subst (IsFound states c.args.budget) c.in-Unknown.is c.in_ok-lasso.ensures.found in
    let count = spent.0 in
    let says = of_found (SaysTarget target) c.loop-fewer.bounds.relations relations states _ _ c.in-Unknown.is c.loop-fewer.invariant.relations c.in_ok-lasso.ensures.says in
    let low : proof.states ≤ target.scopes.states = omega (arith, count, c.loop-fewer-test.true) in
    let below : 1 < states → IsRuledOut target (bounds_over relations (states - 1)) = ruled_below target relations c.args.budget states c.loop-fewer.below c.loop-fewer.invariant.below in (
      omega (arith, count),
      low,
      (refl, spent.1),
      subst (λ (n : ℕ). IsProofOf target (bounds_over relations n) proof) (sym count) says,
      subst (λ (n : ℕ). 1 < n → IsRuledOut target (bounds_over relations (n - 1))) (sym count) below,
    )

pub returns-in-Some-clause-least : goal.returns-in-Some-clause-least
returns-in-Some-clause-least g c =
    let target = c.args.target.now in
    let relations = c.args.bounds.now.relations in
    let proof = c.in-Some.proof in
    let below = subst (IsBelow target relations c.args.budget (c.loop-fewer.fewer + 1)) c.in-Some.is c.loop-fewer.invariant.below in
    let count = below.1 in
    let refuted = below.2 in
    let same : proof.states ≡ target.scopes.states = omega (arith, count, c.loop-fewer-test.false, c.loop-fewer.auto.fewer-end) in (
      (same, refuted.1, refuted.2),
      subst (λ (n : ℕ). IsRuledOut target (bounds_over relations n)) same below.3,
      subst (λ (n : ℕ). IsProofOf target (bounds_over relations n) proof) same below.4,
    )
