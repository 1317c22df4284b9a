use Rattle.std.proofs.Common.{refl, subst}
use Rattle.core_meaning.specs.Satisfied.{DeclaresAt}
use Rattle.eval_trace.specs.Asked.{IsFirstWithout}
use Rattle.eval_check.proofs.SatisfiedLaw.{denied}
use Rattle.eval_check.proofs.is_declared.Goals as goal

pub returns-in-Some : goal.returns-in-Some
returns-in-Some c =
    let fails = subst (IsFirstWithout (DeclaresAt c.args.model.now c.args.scopes.now c.args.lasso.now)) c.in-Some.is c.in_ok-declared.ensures in
    (denied, (λ h. absurd (fails.0 (h c.in-Some.field-0))))

pub returns-in-None : goal.returns-in-None
returns-in-None c =
    let holds = subst (IsFirstWithout (DeclaresAt c.args.model.now c.args.scopes.now c.args.lasso.now)) c.in-None.is c.in_ok-declared.ensures in
    ((λ t. holds), (λ h. refl))
