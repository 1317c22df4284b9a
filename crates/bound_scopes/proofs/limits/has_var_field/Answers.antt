use Rattle.std.proofs.Common.{◌≡◌, ◌∙◌, false, sym, ap, arith}
use Rattle.std.proofs.lemmas.Option.{get_or_from_slice_get, slice_get_within}
use Rattle.std.proofs.lemmas.List.Folds.{list_any_at, list_any_none}
use Rattle.core_tree.specs.declared.model.Field.{Field}
use Rattle.bound_scopes.proofs.Pairs.{all_more, all_whole}
use Rattle.bound_scopes.proofs.limits.has_var_field.Goals as goal

pub loop-place-preserved : goal.loop-place-preserved
loop-place-preserved c =
    let item = c.get-field.result.now in
    all_more (λ (x : Field). x.is_var ≡ false) c.args.fields.now c.loop-place.place item (slice_get_within c.args.fields.now c.loop-place.place item c.get-field.ensures)
    (sym (get_or_from_slice_get c.args.fields.now c.loop-place.place item item c.get-field.ensures)) c.loop-place.invariant c.if-field.false

pub returns-then-field : goal.returns-then-field
returns-then-field c =
    let item = c.get-field.result.now in
    sym (list_any_at (λ (x : Field). x.is_var) c.args.fields.now c.loop-place.place item (slice_get_within c.args.fields.now c.loop-place.place item c.get-field.ensures)
    (ap (λ (x : Field). x.is_var) (get_or_from_slice_get c.args.fields.now c.loop-place.place item item c.get-field.ensures) ∙ c.if-field.true))

pub returns : goal.returns
returns c = sym (list_any_none (λ (x : Field). x.is_var) c.args.fields.now (all_whole (λ (x : Field). x.is_var ≡ false) c.args.fields.now c.loop-place.place (omega arith) c.loop-place.invariant))
