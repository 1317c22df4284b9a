use Rattle.std.proofs.Common.{◌≡◌, ◌≤◌, ◌+◌, ◌∙◌, Some, slice_get, length, ap, sym, refl, subst, arith}
use Rattle.form_target.specs.Asked.{EachBelow, IsApartFrom}
use Rattle.form_target.specs.Added.{Adds}
use Rattle.form_target.proofs.Lists.{item_at}
use Rattle.form_target.proofs.Adding.{adds_start, adds_next, adds_all}
use Rattle.form_target.proofs.fields.apart_formulas.Goals as goal

pub loop-other-init : goal.loop-other-init
loop-other-init c = (refl, adds_start c.args.model.now c.args.model.now.fields (λ w i. IsApartFrom c.args.model.now w i c.args.number c.args.field.now) c.args.all.now.items)

pub apart_from-requires-clause-other : goal.apart_from-requires-clause-other
apart_from-requires-clause-other c =
    subst (λ l. slice_get l c.loop-other.other_number ≡ Some c.other-item.result) c.requires.fields (item_at c.args.fields.now c.loop-other.other-index c.loop-other.other_number c.other-item.result c.loop-other.invariant.0 c.loop-other-test.true c.other-item.is)

pub loop-other-preserved : goal.loop-other-preserved
loop-other-preserved c =
    let at = subst (λ l. slice_get l c.loop-other.other_number ≡ Some c.other-item.result) c.requires.fields (item_at c.args.fields.now c.loop-other.other-index c.loop-other.other_number c.other-item.result c.loop-other.invariant.0 c.loop-other-test.true c.other-item.is) in
    let next = c.in_ok-other_number.ensures in
    let more = adds_next c.args.model.now c.args.model.now.fields c.loop-other.other_number c.other-item.result (λ w i. IsApartFrom c.args.model.now w i c.args.number c.args.field.now) c.args.all.now.items c.loop-other.all.items c.apart_from.new.all.items at c.loop-other.invariant.1 c.in_ok-apart_from.ensures in
    (next ∙ ap (λ n. n + 1) c.loop-other.invariant.0, subst (λ n. Adds c.args.model.now c.args.all.now.items c.apart_from.new.all.items (λ w i. EachBelow c.args.model.now.fields n (IsApartFrom c.args.model.now w i c.args.number c.args.field.now))) (sym next) more)

pub returns : goal.returns
returns c =
    let end : c.loop-other.other-index ≡ length c.args.fields.now = omega arith in
    let same = c.loop-other.invariant.0 in
    let size = ap (λ l. length l) c.requires.fields in
    adds_all c.args.model.now c.args.model.now.fields c.loop-other.other_number (λ w i. IsApartFrom c.args.model.now w i c.args.number c.args.field.now) c.args.all.now.items c.loop-other.all.items (omega (arith, end, same, size)) c.loop-other.invariant.1
