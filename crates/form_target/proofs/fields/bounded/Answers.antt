use Rattle.std.proofs.Common.{ap, ◌∙◌}
use Rattle.core_tree.specs.Trees.{sig, for_all, no_variables, more_variables}
use Rattle.form_target.proofs.Tails.{bounded_added}
use Rattle.form_target.proofs.fields.bounded.Goals as goal

pub returns : goal.returns
returns c =
    let whole = c.in_ok-for_each.ensures ∙ ap (for_all (more_variables 0 0 (sig c.args.owner) no_variables)) c.in_ok-lies.ensures in
    bounded_added c.args.model.now c.args.all.now.items c.push.new.self.items c.args.number c.args.owner c.args.declared.now c.requires _ _ _ c.in_ok-push.ensures.items whole c.in_ok-value.ensures c.in_ok-copy.ensures
