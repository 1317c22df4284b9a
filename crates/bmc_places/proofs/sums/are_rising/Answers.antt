use Rattle.std.proofs.Common.{◌≤◌, ◌-◌, length, refl, arith}
use Rattle.std.proofs.lemmas.Option.{slice_get_read}
use Rattle.bmc_places.proofs.SumLaws.{rising_start, rising_more, rising_all}
use Rattle.bmc_places.proofs.sums.are_rising.Goals as goal

pub loop-turn-init : goal.loop-turn-init
loop-turn-init c = rising_start c.args.choices.now

pub loop-turn-preserved : goal.loop-turn-preserved
loop-turn-preserved c =
    let cs = c.args.choices.now in
    let turn = c.loop-turn.turn in
    let place = length cs - turn in
    let some : 1 ≤ place = omega (arith, c.loop-turn-test.true) in
    let below : place ≤ length cs - 1 = omega (arith, c.loop-turn-test.true, c.loop-turn.auto.turn) in
    let first = c.index-choices-place.result in
    let second = c.index-choices-place-in-loop-turn.result in
    rising_more cs turn place first second refl some
    (slice_get_read cs (length cs) (place - 1) first refl (omega (arith, some, below)) c.index-choices-place.is)
    (slice_get_read cs (length cs) place second refl (omega (arith, some, below)) c.index-choices-place-in-loop-turn.is)
    (c.is_before-rises.ensures c.if-not-rises.false) c.loop-turn.invariant

pub returns : goal.returns
returns c = λ so. rising_all c.args.choices.now c.loop-turn.turn (omega (arith, c.loop-turn-test.false)) c.loop-turn.invariant
