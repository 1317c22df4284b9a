use Rattle.std.proofs.Common.{◌≡◌, ◌≤◌, ◌+◌, ◌∙◌, Some, slice_get, length, ap, sym, refl, subst, arith}
use Rattle.form_target.specs.Asked.{EachBelow, IsFieldAsked}
use Rattle.form_target.specs.Added.{Adds}
use Rattle.form_target.proofs.Lists.{item_at}
use Rattle.form_target.proofs.Adding.{adds_start, adds_next, adds_all}
use Rattle.form_target.proofs.declarations.of_fields.Goals as goal

pub loop-field-init : goal.loop-field-init
loop-field-init c = (refl, adds_start c.args.model.now c.args.model.now.fields (λ w i. IsFieldAsked c.args.model.now w i) c.args.all.now.items)

pub field_formulas-requires-clause-field : goal.field_formulas-requires-clause-field
field_formulas-requires-clause-field c =
    subst (λ l. slice_get l c.loop-field.number ≡ Some c.field-item.result) c.requires (item_at c.args.fields.now c.loop-field.field-index c.loop-field.number c.field-item.result c.loop-field.invariant.0 c.loop-field-test.true c.field-item.is)

pub loop-field-preserved : goal.loop-field-preserved
loop-field-preserved c =
    let at = subst (λ l. slice_get l c.loop-field.number ≡ Some c.field-item.result) c.requires (item_at c.args.fields.now c.loop-field.field-index c.loop-field.number c.field-item.result c.loop-field.invariant.0 c.loop-field-test.true c.field-item.is) in
    let next = c.in_ok-number.ensures in
    let more = adds_next c.args.model.now c.args.model.now.fields c.loop-field.number c.field-item.result (λ w i. IsFieldAsked c.args.model.now w i) c.args.all.now.items c.loop-field.all.items c.field_formulas.new.all.items at c.loop-field.invariant.1 c.in_ok-field_formulas.ensures in
    (next ∙ ap (λ n. n + 1) c.loop-field.invariant.0, subst (λ n. Adds c.args.model.now c.args.all.now.items c.field_formulas.new.all.items (λ w i. EachBelow c.args.model.now.fields n (IsFieldAsked c.args.model.now w i))) (sym next) more)

pub returns : goal.returns
returns c =
    let end : c.loop-field.field-index ≡ length c.args.fields.now = omega arith in
    let same = c.loop-field.invariant.0 in
    let size = ap (λ l. length l) c.requires in
    adds_all c.args.model.now c.args.model.now.fields c.loop-field.number (λ w i. IsFieldAsked c.args.model.now w i) c.args.all.now.items c.loop-field.all.items (omega (arith, end, same, size)) c.loop-field.invariant.1
