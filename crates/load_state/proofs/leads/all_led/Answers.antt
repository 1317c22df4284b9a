use Rattle.std.proofs.Common.{rules, arith, length, refl}
use Rattle.std.proofs.lemmas.Option.{slice_get_read, slice_get_within}
use Rattle.load_state.specs.Keys.{texts_of}
use Rattle.load_state.proofs.Led.{instances_next}
use Rattle.load_state.proofs.leads.all_led.Goals as goal

pub loop-place-preserved : goal.loop-place-preserved
loop-place-preserved c =
    instances_next c.args.asked.now c.args.root.now c.args.instances.now (texts_of c.args.sources.now) c.loop-place.place _ c.in_ok-number.number c.index-instances-place.result c.loop-place.invariant
    (slice_get_read c.args.instances.now (length c.args.instances.now) c.loop-place.place c.index-instances-place.result refl (omega arith) c.index-instances-place.is)
    (c.in_ok-led.ensures (search rules)) c.in_ok-number.ensures (omega arith)

pub returns : goal.returns
returns c = λ _ number i here. c.loop-place.invariant number i (omega (arith, slice_get_within c.args.instances.now number i here)) here
