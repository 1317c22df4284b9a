use Rattle.std.proofs.Common.{◌↔◌, subst, All, IsTrue}
use Rattle.core_tree.specs.declared.model.Fact.{Fact as FactOf}
use Rattle.core_tree.specs.Trees.{claim_of}
use Rattle.core_meaning.specs.Meaning.{no_names}
use Rattle.core_meaning.specs.Satisfied.{HoldsAt}
use Rattle.eval_check.proofs.SatisfiedLaw.{none_kept, none_declared, some_fails, all_hold}
use Rattle.eval_check.proofs.satisfies.Goals as goal

pub returns-then-not-kept : goal.returns-then-not-kept
returns-then-not-kept c =
    none_kept c.args.model.now c.args.scopes.now c.args.lasso.now (claim_of c.args.command.now) c.in_ok-kept.kept c.if-not-kept.true c.in_ok-kept.ensures

pub returns-then-not-declared : goal.returns-then-not-declared
returns-then-not-declared c =
    none_declared c.args.model.now c.args.scopes.now c.args.lasso.now (claim_of c.args.command.now) c.in_ok-declared.declared c.if-not-declared.true c.in_ok-declared.ensures

pub returns-then-not-facts : goal.returns-then-not-facts
returns-then-not-facts c =
    some_fails c.args.model.now c.args.scopes.now c.args.lasso.now (claim_of c.args.command.now) c.in_ok-facts.facts c.if-not-facts.true (subst (λ fs. IsTrue c.in_ok-facts.facts ↔ All (λ (f : FactOf). HoldsAt c.args.model.now c.args.scopes.now c.args.lasso.now (claim_of f.formula) no_names 0) fs) c.as_slice.ensures c.in_ok-facts.ensures)

pub returns : goal.returns
returns c =
    all_hold c.args.model.now c.args.scopes.now c.args.lasso.now (claim_of c.args.command.now) c.in_ok-kept.kept c.in_ok-declared.declared c.in_ok-facts.facts c.in_ok-last.last
    c.if-not-kept.false c.if-not-declared.false c.if-not-facts.false c.in_ok-kept.ensures c.in_ok-declared.ensures (subst (λ fs. IsTrue c.in_ok-facts.facts ↔ All (λ (f : FactOf). HoldsAt c.args.model.now c.args.scopes.now c.args.lasso.now (claim_of f.formula) no_names 0) fs) c.as_slice.ensures c.in_ok-facts.ensures) c.in_ok-last.ensures
