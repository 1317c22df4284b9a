use Rattle.std.proofs.Common.{rules, arith, length, refl}
use Rattle.std.proofs.lemmas.Option.{slice_get_read}
use Rattle.load_state.specs.Keys.{texts_of}
use Rattle.load_state.proofs.Led.{led_next, are_led_by}
use Rattle.load_state.proofs.leads.are_led.Goals as goal

pub loop-place-preserved : goal.loop-place-preserved
loop-place-preserved c =
    led_next c.args.asked.now c.args.root.now c.args.instances.now (texts_of c.args.sources.now) c.args.number c.loop-place.place _ c.args.source.now.text.tree c.args.opens.now c.index-opens-place.result c.loop-place.invariant
    (slice_get_read c.args.opens.now (length c.args.opens.now) c.loop-place.place c.index-opens-place.result refl (omega arith) c.index-opens-place.is)
    (c.in_ok-led.ensures (search rules)) (omega arith)

pub returns : goal.returns
returns c = λ _.
    are_led_by c.args.asked.now c.args.root.now c.args.instances.now (texts_of c.args.sources.now) c.args.number c.in_ok-count.count c.args.source.now.text.tree c.args.opens.now c.in_ok-count.ensures
    (λ k o below here. c.loop-place.invariant k o (omega arith) here) (c.in_ok-ends.ensures (search rules))
