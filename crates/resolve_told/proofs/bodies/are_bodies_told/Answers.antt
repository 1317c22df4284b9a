use Rattle.std.proofs.Common.{map, subst}
use Rattle.resolve_told.specs.Bodies.{IsBody, bodies_from}
use Rattle.resolve_told.specs.Views.{declaration}
use Rattle.resolve_told.specs.Lists.{OneByOne}
use Rattle.resolve_told.proofs.bodies.are_bodies_told.Goals as goal

pub returns : goal.returns
returns c = λ same.
    let Is = IsBody c.args.names.now.scopes c.args.model.now c.args.readings.now in
    subst (λ i. OneByOne (Is i) (bodies_from c.args.loaded.now.texts 0 c.args.loaded.now.instances) c.args.model.now.bodies) c.integers_of.ensures
    (subst (λ bs. OneByOne (Is c.integers_of.result) (bodies_from c.args.loaded.now.texts 0 c.args.loaded.now.instances) bs) c.as_slice-bodies.ensures
    (subst (λ ds. OneByOne (Is c.integers_of.result) ds c.as_slice-bodies.result.now) c.in_ok-all.ensures
    (subst (λ all. OneByOne (Is c.integers_of.result) (map declaration all) c.as_slice-bodies.result.now) c.as_slice.ensures.value (c.in_ok-are_right.ensures same))))
