use Rattle.form_target.proofs.Tails.{counted_one, counted_lone, counted_some}
use Rattle.form_target.proofs.sigs.counted.Goals as goal

pub returns-in_ok-push-in-One : goal.returns-in_ok-push-in-One
returns-in_ok-push-in-One c = counted_one c.args.model.now c.args.all.now.items c.push.new.self.items c.args.number c.args.sig.now c.requires _ c.in-One.is c.in_ok-push-in-One.ensures.items c.in_ok-test-in-One.ensures

pub returns-in_ok-push-in-Lone : goal.returns-in_ok-push-in-Lone
returns-in_ok-push-in-Lone c = counted_lone c.args.model.now c.args.all.now.items c.push-in-Lone.new.self.items c.args.number c.args.sig.now c.requires _ c.in-Lone.is c.in_ok-push-in-Lone.ensures.items c.in_ok-test-in-Lone.ensures

pub returns-in_ok-push-in-Some : goal.returns-in_ok-push-in-Some
returns-in_ok-push-in-Some c = counted_some c.args.model.now c.args.all.now.items c.push-in-Some.new.self.items c.args.number c.args.sig.now c.requires _ c.in-Some.is c.in_ok-push-in-Some.ensures.items c.in_ok-test-in-Some.ensures
