use Rattle.std.proofs.Common.{◌<◌, length, slice_get, ap, sym, ◌∙◌, arith}
use Rattle.core_tuples.proofs.OrderLemmas.{take_get}
use Rattle.bound_uppers.proofs.Cut.{place_before}
use Rattle.bound_uppers.proofs.shortening.first_states.Goals as goal

pub loop-place-preserved : goal.loop-place-preserved
loop-place-preserved c =
    let lasso = c.args.lasso.now in
    let within : c.loop-place.place < length lasso.states = omega (arith, c.requires, c.loop-place-test.true) in
    let here = ap (slice_get lasso.states) (sym (place_before lasso c.loop-place.place within)) ∙ c.at.ensures in
    let taken = take_get lasso.states c.loop-place.place c.at.result.now within here in
    grind (arith, taken, c.loop-place.invariant, c.in_ok-push.ensures.items, c.in_ok-copy.ensures)
