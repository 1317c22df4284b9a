use Rattle.std.proofs.Common.{◌≡◌, ◌∙◌, sym, subst, ℕ, Some, slice_get, get_or}
use Rattle.std.proofs.lemmas.List.{length-map}
use Rattle.std.proofs.lemmas.Option.{get_or_from_slice_get}
use Rattle.core_tree.specs.declared.model.Sig.{Sig}
use Rattle.resolve_types.specs.declared.columns.Columns.{Columns}
use Rattle.resolve_told_types.specs.Kinds.{kind_in}
use Rattle.resolve_told_types.specs.Steps.{IsTypeStep}
use Rattle.resolve_told_types.proofs.TypeLaws.{are_types_of}
use Rattle.resolve_told_types.proofs.Lists.{front_more, front_all}
use Rattle.resolve_told_types.proofs.types.are_types_by.Goals as goal

pub loop-place-preserved : goal.loop-place-preserved
loop-place-preserved c =
    let types = c.args.types.now in
    let ranks = c.args.ranks.now in
    let sigs = c.args.sigs.now in
    let place = c.loop-place.place in
    let first = c.index-sigs-place.result in
    let own = c.index-types-place.result in
    front_more (λ (s : ℕ) (x : Sig). (d : Columns) → slice_get types s ≡ Some d → IsTypeStep types ranks s (kind_in x) d) sigs place c.loop-place.invariant (λ x at d there.
    let same : own ≡ d = c.index-types-place.is ∙ get_or_from_slice_get types place d own there in
    subst (λ (y : Sig). IsTypeStep types ranks place (kind_in y) d) (get_or_from_slice_get sigs place x first at)
    (subst (λ (e : Columns). IsTypeStep types ranks place (kind_in (get_or sigs place first)) e) same (c.is_type.ensures c.if-not-is_type.false)))

pub returns : goal.returns
returns c = λ t.
    let types = c.args.types.now in
    let ranks = c.args.ranks.now in
    are_types_of c.args.sigs.now types ranks (c.if-types-sigs.false ∙ sym (length-map c.args.sigs.now kind_in))
    (front_all (λ (s : ℕ) (x : Sig). (d : Columns) → slice_get types s ≡ Some d → IsTypeStep types ranks s (kind_in x) d) c.args.sigs.now c.loop-place.place c.loop-place-test.false c.loop-place.invariant)
