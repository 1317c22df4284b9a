use Rattle.std.proofs.Common.{ℕ, true, false, ◌≡◌, ◌⊎◌, inl, inr, ⊎_elim, ap, refl, subst, length, get_or, arith}
use Rattle.sat_trail.specs.State.{Search}
use Rattle.sat_trail.specs.Search.{net, search_of}
use Rattle.sat_trail.specs.Detached.{AreCleared}
use Rattle.sat_trail.proofs.Detaching.{IsSound-detach, IsCopied-detach}
use Rattle.sat_trail.proofs.Reasoning.{reasoned_as}
use Rattle.sat_trail.proofs.trail.Trail.detach.Goals as goal

pub clear-requires : goal.clear-requires
clear-requires c = let s = c.self.invariant.sound in omega (arith, ap length c.as_slice.ensures.value, s.woven.two_each, s.marked)

pub unwatch-requires : goal.unwatch-requires
unwatch-requires c = omega (arith, c.len-count.ensures, c.self.inside.arena.ends.ok.0, c.self.invariant.sound.woven.two_each)

pub retain-requires : goal.retain-requires
retain-requires c = c.self.invariant.sound.at_rest

pub invariant_of-self : goal.invariant_of-self
invariant_of-self c =
    let i = c.self.invariant in
    let m = net c.self.inside in
    let cleared : AreCleared c.args.marks.now m.at m.attached c.clear.new.attached.items = rw c.as_slice.ensures.value at c.clear.ensures in
    record {
      variables = i.variables;
      sound = IsSound-detach m c.args.marks.now c.clear.new.attached.items c.unwatch.new.at.items c.retain.new.self i.sound cleared c.unwatch.ensures c.retain.ensures;
      copied = IsCopied-detach _ _ c.args.marks.now _ _ _ c.unwatch.ensures i.sound.woven.two_each i.copied;
      reasoned = reasoned_as (search_of c.self.inside) _ refl refl refl refl i.reasoned;
    }

pub returns-clause-size : goal.returns-clause-size
returns-clause-size c = subst (λ (x : Search). length c.clear.new.attached.items ≡ length x.attached) c.self.view_is c.clear.ensures.size

pub returns-clause-attached : goal.returns-clause-attached
returns-clause-attached c =
    subst (λ (x : Search). (i : ℕ) → get_or x.attached i false ≡ true → (get_or c.clear.new.attached.items i false ≡ true) ⊎ (get_or c.args.marks.now i false ≡ true)) c.self.view_is
    (λ i on. ⊎_elim (λ (stays : get_or c.clear.new.attached.items i false ≡ true). inl stays) (λ out. inr out.0) (c.clear.ensures.kept i on))

pub returns-clause-only : goal.returns-clause-only
returns-clause-only c =
    subst (λ (x : Search). (i : ℕ) → get_or c.clear.new.attached.items i false ≡ true → get_or x.attached i false ≡ true) c.self.view_is (λ i on. (c.clear.ensures.only i on).0)
