use Rattle.std.proofs.Common.{◌≡◌, ◌∙◌, ◌⊎◌, ℕ, ◌+◌, IsTrue, List, Contains, ap, sym, subst}
use Rattle.resolve_said.specs.declared.place.OwnField.{OwnField}
use Rattle.resolve_told_sigs.specs.Own.{AreAbove, own_field}
use Rattle.resolve_told_sigs.proofs.Joined.{own_more, own_whole}
use Rattle.resolve_told_sigs.proofs.own.own_fields.Goals as goal

pub loop-field-preserved : goal.loop-field-preserved
loop-field-preserved c =
    let found : AreAbove c.args.sigs.now c.args.sig c.in-Some.above.items = rw c.in-Some.is at c.in_ok-above_of.ensures in
    let above : AreAbove c.args.sigs.now c.args.sig c.as_slice.result.now = subst (λ (ts : List ℕ). AreAbove c.args.sigs.now c.args.sig ts) (sym c.as_slice.ensures.value) found in
    let same : c.loop-field.number ≡ c.loop-field.field-index = c.loop-field.invariant.1 in
    let joined = c.is_joined-joined.result in
    let d = c.field-item.result in (
      own_more c.args.sigs.now c.args.fields.now c.args.instance c.args.sig c.args.lists c.loop-field.field-index d joined c.loop-field.all c.push_if.new.all
          c.loop-field-test.true c.field-item.is
          (c.is_joined-joined.ensures.there c.args.sigs.now above) (c.is_joined-joined.ensures.whole c.args.sigs.now above)
          c.in_ok-push_if.ensures.kept
          (subst (λ j. (o : OwnField) → Contains c.push_if.new.all o → Contains c.loop-field.all o ⊎ (IsTrue joined × (own_field j d ≡ o))) same c.in_ok-push_if.ensures.only)
          (subst (λ j. IsTrue joined → Contains c.push_if.new.all (own_field j d)) same c.in_ok-push_if.ensures.added)
          c.loop-field.invariant.0,
      c.in_ok-number.ensures ∙ ap (λ m. m + 1) same,
    )

pub returns : goal.returns
returns c = own_whole c.args.sigs.now c.args.fields.now c.args.instance c.args.sig c.args.lists c.loop-field.field-index c.loop-field.all c.loop-field-test.false c.loop-field.invariant.0
