use Rattle.std.proofs.Common.{◌∙◌, ap, sym, subst}
use Rattle.resolve_told.specs.Commands.{IsFor, steps}
use Rattle.std.specs.Prelude.{filter_map}
use Rattle.resolve_hierarchy.specs.Rules.{member_of}
use Rattle.resolve_told.specs.CommandViews.{IsOnly}
use Rattle.resolve_told.proofs.Running.{not_both}
use Rattle.resolve_told.proofs.Named.{only_for}
use Rattle.resolve_told.proofs.scopes.is_for.Goals as goal

pub returns-then-is_steps : goal.returns-then-is_steps
returns-then-is_steps c = λ yes. subst (λ s. IsFor c.args.names.now.scopes c.args.name.now s) (sym (c.is_for_steps-is_right.ensures yes)) (steps (c.is_steps.ensures.yes c.if-is_steps.true))

pub returns : goal.returns
returns c = λ yes.
    only_for c.args.names.now.scopes c.args.name.now c.in_ok-decls.decls.items c.args.subject (λ is. not_both c.is_steps.result (c.is_steps.ensures.no is) c.if-is_steps.false) c.in_ok-decls.ensures
    (subst (λ ms. IsOnly ms c.args.subject) (c.as_slice-2.ensures ∙ (c.in_ok-members.ensures ∙ ap (filter_map (member_of c.args.names.now.scopes)) c.as_slice.ensures.value)) (c.is_for_members-is_right.ensures yes))
