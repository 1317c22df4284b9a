use Rattle.std.proofs.Common.{◌∙◌, ap, subst}
use Rattle.std.specs.Prelude.{IfSome}
use Rattle.resolve_names.specs.Marks.{IsMarked}
use Rattle.resolve_names.specs.Visible.{Leads, last_of, path_of}
use Rattle.resolve_told.specs.Commands.{IsAssertion}
use Rattle.resolve_told.proofs.Running.{if_some_to}
use Rattle.resolve_told.proofs.asked.named_assertion.Goals as goal

pub returns-clause-led : goal.returns-clause-led
returns-clause-led c =
    if_some_to (λ f. IsMarked c.as_slice-2.result.now f.instance) (λ f. Leads c.args.names.now.scopes 0 c.args.name.now.is_own (path_of c.args.name.now.parts) f.instance)
    (λ f m. (c.in_ok-marks.ensures.just f.instance).0 (subst (λ ms. IsMarked ms f.instance) c.as_slice-2.ensures.value m)) c.in_ok-found.found c.in_ok-found.ensures.marked

pub returns-clause-there : goal.returns-clause-there
returns-clause-there c =
    subst (λ t. IfSome c.in_ok-found.found (λ f. IsAssertion c.args.loaded.now.texts c.args.loaded.now.instances f.instance t f.claim.now)) (c.last_part-text.ensures ∙ ap last_of c.as_slice.ensures) c.in_ok-found.ensures.there
