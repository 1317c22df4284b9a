use Rattle.std.proofs.Common.{[], refl}
use Rattle.bound_scopes.proofs.Roots.{added_root, no_root}
use Rattle.bound_scopes.proofs.counted.add_bound.Goals as goal

pub returns-in-None : goal.returns-in-None
returns-in-None c = rw c.in-None.is (no_root c.args.all.now.items [] refl)

pub returns-in-None-declared : goal.returns-in-None-declared
returns-in-None-declared c = rw (c.in-Some.is, c.in-None-declared.is) (no_root c.args.all.now.items [] refl)

pub returns-in_ok-push-in-Some-declared : goal.returns-in_ok-push-in-Some-declared
returns-in_ok-push-in-Some-declared c = rw (c.in-Some.is, c.in-Some-declared.is) (added_root c.args.all.now.items c.push.new.self.items _ _ c.in_ok-push-in-Some-declared.ensures.items refl)
