use Rattle.form_target.proofs.Binders.{each_is}
use Rattle.form_target.proofs.build.for_each.Goals as goal

pub returns : goal.returns
returns c = each_is c.push.new.self c.in_ok-body.body c.new-list.result.items c.args.sig c.args.f c.new-list.ensures.items c.in_ok-push.ensures.items c.in_ok-body.ensures.ok
