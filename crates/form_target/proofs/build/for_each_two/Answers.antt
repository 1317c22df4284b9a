use Rattle.form_target.proofs.Binders.{two_are}
use Rattle.form_target.proofs.build.for_each_two.Goals as goal

pub returns : goal.returns
returns c = two_are c.push-2.new.self c.in_ok-body.body c.new-list.result.items c.push.new.self.items c.args.sig c.args.f c.new-list.ensures.items c.in_ok-push.ensures.items c.in_ok-push-2.ensures.items c.in_ok-body.ensures.ok
