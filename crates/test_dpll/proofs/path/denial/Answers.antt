use Rattle.std.proofs.Common.{◌-◌, ◌≤◌, ◌<◌, nat_abs, ◌∙◌, ap, sym, subst, arith, ◌++◌, take, reverse, length, neg_ℤ}
use Rattle.test_dpll.specs.declared.path.Step.{Step}
use Rattle.test_dpll.specs.Steps.{denial_of}
use Rattle.test_dpll.proofs.Values.{step_at}
use Rattle.test_dpll.proofs.Growing.{denial_more}
use Rattle.test_dpll.proofs.path.denial.Goals as goal

pub push_negation-requires : goal.push_negation-requires
push_negation-requires c =
    let most = length c.args.path.now.values.items in
    let P : Step → Type 0 = λ step. (0 < nat_abs step.literal) × (nat_abs step.literal ≤ most) in
    let inside : c.loop-place.place - 1 < length c.args.path.now.steps.items = omega arith in
    let both : P c.index.result.now = subst P (sym c.index.ensures) (step_at most c.args.path.now.steps.items (c.loop-place.place - 1) c.index.result.now c.requires.apart inside) in
    record { nonzero = both.0; fits = omega (arith, both.1, c.requires.small) }

pub loop-place-preserved : goal.loop-place-preserved
loop-place-preserved c =
    let steps = c.args.path.now.steps.items in
    let place = c.loop-place.place in
    record {
      within = omega arith;
      clause = ap (λ clause. clause ++ denial_of (reverse (take (place - 1) steps))) c.in_ok-push_negation.ensures
          ∙ denial_more steps (place - 1) place c.loop-place.clause c.index.result.now _ (omega arith) (omega arith) (ap (λ (step : Step). neg_ℤ step.literal) c.index.ensures)
          ∙ c.loop-place.invariant.clause;
    }
