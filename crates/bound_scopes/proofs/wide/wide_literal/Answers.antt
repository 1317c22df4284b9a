use Rattle.std.proofs.Common.{◌+◌, ℕ, false, length, map, replicate, refl, ap, ◌∙◌, arith}
use Rattle.std.proofs.lemmas.List.{length-replicate}
use Rattle.bound_scopes.specs.Roots.{counted_root}
use Rattle.bound_scopes.proofs.Following.{at_start, gathered_turn, gathered_all}
use Rattle.bound_scopes.proofs.wide.wide_literal.Goals as goal

pub loop-place-init : goal.loop-place-init
loop-place-init c =
    let none = c.in_ok-seen.ensures.items_if_clones_equal (λ y e. e) ∙ ap (λ (n : ℕ). replicate n false) c.len.ensures in
    at_start c.args.bodies.now (map counted_root c.args.roots.now) c.half_of-half.result c.in_ok-all.all.items c.in_ok-seen.seen.items _ c.in_ok-all.ensures none (ap length none ∙ length-replicate (length c.args.bodies.now) false) refl

pub loop-place-preserved : goal.loop-place-preserved
loop-place-preserved c =
    gathered_turn c.args.bodies.now (map counted_root c.args.roots.now) c.half_of-half.result c.loop-place.place (c.loop-place.place + 1) c.loop-place.all.items c.follow.new.all.items c.loop-place.seen.items c.follow.new.seen.items c.index-mention.result.now
    c.loop-place.first c.with_wide-first.result refl (omega arith) c.index-mention.ensures c.loop-place.invariant c.with_wide-first.ensures c.in_ok-follow.ensures

pub returns-then-place-len : goal.returns-then-place-len
returns-then-place-len c =
    gathered_all c.args.bodies.now (map counted_root c.args.roots.now) c.args.bits c.half_of-half.result c.loop-place.all.items c.loop-place.seen.items c.loop-place.place c.loop-place.first c.half_of-half.ensures (omega arith) c.loop-place.invariant
