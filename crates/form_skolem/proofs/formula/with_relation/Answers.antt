use Rattle.std.proofs.Common.{◌≡◌, [], ◌∷◌, ◌++◌, map, reverse, take, rules, ap, ◌∙◌}
use Rattle.core_tree.specs.Trees.{claim_of}
use Rattle.core_tree.specs.declared.tree.Formula.{Let}
use Rattle.form_skolem.specs.Claims.{apart_from}
use Rattle.form_skolem.proofs.Made.{field_made}
use Rattle.form_skolem.proofs.formula.with_relation.Goals as goal

pub returns : goal.returns
returns c =
    let pushed : c.push-2.new.self.items ≡ c.add_all_apart.new.parts.items ++ Let c.args.number c.in_ok-value.value c.in_ok-rest.rest ∷ [] = search rules in
    let first : c.push.new.self.items ≡ c.in_ok-inside.inside ∷ [] = c.in_ok-push.ensures.items ∙ ap (λ fs. fs ++ c.in_ok-inside.inside ∷ []) c.new-parts.ensures.items in
    let apart : map claim_of c.add_all_apart.new.parts.items ≡ claim_of c.in_ok-inside.inside ∷ apart_from c.args.field (take c.args.parameter.now.apart (reverse c.args.before.now)) =
    c.in_ok-add_all_apart.ensures ∙ ap (λ fs. map claim_of fs ++ apart_from c.args.field (take c.args.parameter.now.apart (reverse c.args.before.now))) first in
    field_made c.args.number c.args.field c.args.parameter.now (reverse c.args.before.now) c.in_ok-inside.inside c.args.after c.push-2.new.self c.add_all_apart.new.parts.items c.in_ok-value.value c.in_ok-rest.rest
    c.in_ok-inside.ensures apart pushed c.in_ok-value.ensures.ok c.in_ok-rest.ensures.ok
