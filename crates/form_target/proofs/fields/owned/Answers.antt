use Rattle.form_target.proofs.Tails.{owned_added}
use Rattle.form_target.proofs.fields.owned.Goals as goal

pub returns : goal.returns
returns c = owned_added c.args.model.now c.args.all.now.items c.push.new.self.items c.args.number c.args.owner c.args.declared.now c.requires _ _ c.in_ok-push.ensures.items c.in_ok-inside.ensures c.in_ok-begins.ensures
