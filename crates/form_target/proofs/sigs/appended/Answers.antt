use Rattle.form_target.proofs.Tails.{no_fact, appended_fact}
use Rattle.form_target.proofs.sigs.appended.Goals as goal

pub returns-in-None : goal.returns-in-None
returns-in-None c = no_fact c.args.model.now c.args.all.now.items c.args.number c.args.sig.now c.in-None.is

pub returns-in_ok-push-in-Some : goal.returns-in_ok-push-in-Some
returns-in_ok-push-in-Some c = appended_fact c.args.model.now c.args.all.now.items c.push.new.self.items c.args.number c.args.sig.now c.requires c.in-Some.fact _ _ c.in-Some.is c.in_ok-push-in-Some.ensures.items c.in_ok-for_each-in-Some.ensures c.in_ok-copy-in-Some.ensures
