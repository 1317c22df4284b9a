use Rattle.std.proofs.Common.{◌+◌, Bool, None, refl, ap, ◌∙◌, arith}
use Rattle.bound_definitions.specs.Places.{first_from, place_if}
use Rattle.bound_definitions.proofs.Firsts.{first_turn}
use Rattle.bound_scopes.proofs.Roots.{deep_root, deep_end}
use Rattle.bound_scopes.proofs.deep.over_limit.Goals as goal

pub loop-place-preserved : goal.loop-place-preserved
loop-place-preserved c =
    let root = c.in-Some.root.now in
    let look = c.in-Some.ensures.lookup in
    first_turn (deep_root c.args.measure c.args.bodies.now) None c.args.roots.now c.loop-place.place (c.loop-place.place + 1) root c.loop-place.first c.with_place-first.result refl look.3.0 look.1 c.loop-place.invariant
    (c.with_place-first.ensures ∙ ap (λ (b : Bool). first_from c.loop-place.first (place_if b root.at)) (c.in_ok-over.ensures c.args.bodies.now c.in_ok-known.ensures))

pub returns : goal.returns
returns c = deep_end c.args.measure c.args.bodies.now c.args.roots.now c.loop-place.place c.loop-place.first (omega arith) c.loop-place.invariant
