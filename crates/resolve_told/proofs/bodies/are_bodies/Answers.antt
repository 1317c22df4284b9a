use Rattle.std.proofs.Common.{arith}
use Rattle.resolve_told.specs.Bodies.{IsBody}
use Rattle.resolve_told.specs.Views.{declaration}
use Rattle.resolve_told.proofs.Walk.{pair_more}
use Rattle.resolve_told.proofs.bodies.are_bodies.Goals as goal

pub loop-place-preserved : goal.loop-place-preserved
loop-place-preserved c =
    let told = c.args.told.now in
    pair_more (IsBody told.names.now.scopes told.model.now told.readings.now told.integers) declaration c.args.all.now c.args.bodies.now c.loop-place.place c.index-all-place.result c.index-bodies-place.result
    (omega arith) (omega arith) c.index-all-place.is c.index-bodies-place.is c.loop-place.invariant (c.in_ok-is_right.ensures c.if-not-is_right.false)
