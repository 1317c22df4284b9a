use Rattle.std.proofs.Common.{[], refl}
use Rattle.bound_scopes.proofs.Roots.{added_root, no_root}
use Rattle.bound_scopes.proofs.counted.add_appended.Goals as goal

pub returns-in-None : goal.returns-in-None
returns-in-None c = rw c.in-None.is (no_root c.args.all.now.items [] refl)

pub returns-in-None-appended : goal.returns-in-None-appended
returns-in-None-appended c = rw (c.in-Some.is, c.in-None-appended.is) (no_root c.args.all.now.items [] refl)

pub returns-in_ok-push-in-Some-appended : goal.returns-in_ok-push-in-Some-appended
returns-in_ok-push-in-Some-appended c = rw (c.in-Some.is, c.in-Some-appended.is) (added_root c.args.all.now.items c.push.new.self.items _ _ c.in_ok-push-in-Some-appended.ensures.items refl)
