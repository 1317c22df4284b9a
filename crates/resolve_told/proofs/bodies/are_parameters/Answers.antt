use Rattle.std.proofs.Common.{arith}
use Rattle.std.specs.Prelude.{slice_index}
use Rattle.resolve_said.specs.Said.{standing_of}
use Rattle.resolve_told.specs.Bodies.{IsParameter}
use Rattle.resolve_told.specs.Views.{declared}
use Rattle.resolve_told.proofs.Walk.{pair_more, pair_all}
use Rattle.resolve_told.proofs.bodies.are_parameters.Goals as goal

pub loop-place-preserved : goal.loop-place-preserved
loop-place-preserved c =
    pair_more (λ n d p. IsParameter (standing_of c.args.site.now) (slice_index c.args.columns.now n) d p) declared c.args.all.now c.args.parameters.now c.loop-place.place c.index-all-place.result c.index-parameters-place.result
    (omega arith) (omega arith) c.index-all-place.is c.index-parameters-place.is c.loop-place.invariant (c.in_ok-is_same.ensures c.if-not-is_same.false)

pub returns : goal.returns
returns c = λ same.
    pair_all (λ n d p. IsParameter (standing_of c.args.site.now) (slice_index c.args.columns.now n) d p) declared c.args.all.now c.args.parameters.now c.loop-place.place
    c.if-all-parameters.false (omega (arith, c.loop-place-test.false)) c.loop-place.invariant
