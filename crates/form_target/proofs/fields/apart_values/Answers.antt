use Rattle.form_target.proofs.Tails.{values_added}
use Rattle.form_target.proofs.fields.apart_values.Goals as goal

pub returns : goal.returns
returns c = values_added c.args.model.now c.args.all.now.items c.push.new.self.items c.args.number c.args.owner c.args.declared.now c.requires _ c.in_ok-apart.apart _ _ c.in_ok-push.ensures.items c.if-not-declared.false c.in_ok-for_each_two.ensures c.in_ok-apart.ensures c.in_ok-first.ensures c.in_ok-second.ensures
