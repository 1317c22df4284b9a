use Rattle.std.proofs.Common.{refl, sym, arith, subst, All}
use Rattle.std.proofs.lemmas.List.{take_all}
use Rattle.std.proofs.lemmas.List.Elements.{All-more, All-get_or}
use Rattle.core_tree.specs.declared.model.Fact.{Fact as FactOf}
use Rattle.core_tree.specs.Trees.{claim_of}
use Rattle.core_meaning.specs.Meaning.{no_names}
use Rattle.core_meaning.specs.Satisfied.{HoldsAt}
use Rattle.eval_check.proofs.SatisfiedLaw.{said, unsaid, denied}
use Rattle.eval_check.proofs.facts_hold.Goals as goal

pub returns-then-not-truth : goal.returns-then-not-truth
returns-then-not-truth c =
    (denied, (λ h. absurd (unsaid c.in_ok-truth.truth c.if-not-truth.true c.in_ok-truth.ensures (subst (λ (f : FactOf). HoldsAt c.args.model.now c.args.scopes.now c.args.lasso.now (claim_of f.formula) no_names 0) (sym c.fact-item.is) (All-get_or (λ (f : FactOf). HoldsAt c.args.model.now c.args.scopes.now c.args.lasso.now (claim_of f.formula) no_names 0) c.args.facts.now c.loop-fact.fact-index c.fact-item.result (omega (arith, c.loop-fact-test.true)) h)))))

pub loop-fact-preserved : goal.loop-fact-preserved
loop-fact-preserved c =
    All-more (λ (f : FactOf). HoldsAt c.args.model.now c.args.scopes.now c.args.lasso.now (claim_of f.formula) no_names 0) c.args.facts.now c.loop-fact.fact-index c.fact-item.result (omega (arith, c.loop-fact-test.true)) c.loop-fact.invariant (subst (λ (f : FactOf). HoldsAt c.args.model.now c.args.scopes.now c.args.lasso.now (claim_of f.formula) no_names 0) c.fact-item.is (said c.in_ok-truth.truth c.if-not-truth.false c.in_ok-truth.ensures))

pub returns : goal.returns
returns c =
    let whole = take_all c.loop-fact.fact-index c.args.facts.now (omega (arith, c.loop-fact-test.false)) in
    ((λ t. subst (All (λ (f : FactOf). HoldsAt c.args.model.now c.args.scopes.now c.args.lasso.now (claim_of f.formula) no_names 0)) whole c.loop-fact.invariant), (λ h. refl))
