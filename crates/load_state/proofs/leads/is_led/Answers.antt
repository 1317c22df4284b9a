use Rattle.std.proofs.Common.{arith, ◌≡◌, ◌-◌, ◌∙◌, List, length, Some, refl, ap, sym, subst, slice_get}
use Rattle.std.proofs.lemmas.Option.{slice_get_read}
use Rattle.syntax_tree.specs.declared.module.Open.{Open}
use Rattle.load_state.specs.Keys.{texts_of}
use Rattle.load_state.specs.Opens.{written, implied, enums_of}
use Rattle.load_state.specs.declared.table.Enumerated.{Enumerated}
use Rattle.load_state.proofs.Led.{led_here}
use Rattle.load_state.proofs.Opens.{written_at, implied_at}
use Rattle.load_state.proofs.leads.is_led.Goals as goal

pub returns-then-place-written : goal.returns-then-place-written
returns-then-place-written c = λ yes.
    let w = c.index-written-place.result in
    let tree = c.args.source.now.text.tree in
    let there : slice_get tree.opens c.args.place ≡ Some w =
    subst (λ (os : List Open). slice_get os c.args.place ≡ Some w) c.as_slice-written.ensures
    (slice_get_read c.as_slice-written.result.now (length c.as_slice-written.result.now) c.args.place w refl (omega arith) c.index-written-place.is) in
    led_here c.args.asked.now c.args.root.now c.args.instances.now (texts_of c.args.sources.now) c.args.number c.args.place tree c.args.opened.now (written w) (written_at tree c.args.place w there) (c.in_ok-led.ensures yes)

pub returns-in_ok-led-in-Some : goal.returns-in_ok-led-in-Some
returns-in_ok-led-in-Some c = λ yes.
    let e = c.in-Some.implied in
    let tree = c.args.source.now.text.tree in
    let k = c.args.place - length c.as_slice-written.result.now in
    let there : slice_get (enums_of tree) k ≡ Some e = ap (λ (es : List Enumerated). slice_get es k) (sym c.args.source.now.implies) ∙ (sym c.enum_at.ensures ∙ c.in-Some.is) in
    led_here c.args.asked.now c.args.root.now c.args.instances.now (texts_of c.args.sources.now) c.args.number c.args.place tree c.args.opened.now (implied e)
    (implied_at tree c.args.place k e (omega (arith, ap length c.as_slice-written.ensures)) there) (c.in_ok-led-in-Some.ensures yes)
