use Rattle.std.proofs.Common.{◌≡◌, ◌≤◌, List, length, All, ap, ◌∙◌, subst, arith}
use Rattle.core_tree.specs.declared.model.Field.{Field}
use Rattle.core_tree.specs.Trees.{claim_of}
use Rattle.resolve_type_check.specs.Names.{names_of}
use Rattle.answer_checks.specs.Fields.{AreOwnedBefore, IsBoundBelow}
use Rattle.answer_checks.proofs.Kept.{named_by, placed_by}
use Rattle.answer_checks.proofs.fields.places_fields.Goals as goal

pub returns-clause-named : goal.returns-clause-named
returns-clause-named c = λ t.
    let model = c.args.model.now in
    let owned = subst (λ (l : List Field). AreOwnedBefore l c.owned_before-first.result) c.as_slice-fields.ensures c.owned_before-first.ensures.owned in
    let below = subst (λ (l : List Field). All (IsBoundBelow (length model.sigs) c.owned_before-first.result) l) c.as_slice-fields.ensures (subst (λ n. All (IsBoundBelow n c.owned_before-first.result) c.as_slice-fields.result.now) c.len-sigs.ensures (c.are_bounds_below-below.ensures c.if-not-below.false)) in
    named_by model c.owned_before-first.result c.requires owned below

pub returns-clause-placed : goal.returns-clause-placed
returns-clause-placed c = λ t.
    let model = c.args.model.now in
    let same : length c.as_slice-fields.result.now ≡ length model.fields = ap (λ (l : List Field). length l) c.as_slice-fields.ensures in
    let owned = subst (λ (l : List Field). AreOwnedBefore l c.owned_before-first.result) c.as_slice-fields.ensures c.owned_before-first.ensures.owned in
    let few = c.owned_before-first.ensures.few in
    let low : c.owned_before-first.result ≤ length model.fields = omega (arith, few, same) in
    let none = c.as_slice.ensures ∙ c.new-none.ensures in
    placed_by model (claim_of c.args.formula.now) c.owned_before-first.result c.in_ok-known.known (names_of c.as_slice.result.now) low owned (ap names_of none) (omega (arith, same)) c.in_ok-known.ensures
