-- What each label is of, and steps along links.
use Rattle.std.proofs.Common.{◌≡◌, ℕ, zero, suc, ◌-◌, ◌<◌, List, [], ◌∷◌, ◌++◌, length, All, Option, Some, None, slice_get, slice_index, refl, ap, ◌∙◌, arith, append_assoc}
use Rattle.std.proofs.lemmas.List.Elements.{All-nil, All-cons, All-append}
use Rattle.core_tree.specs.declared.model.Model.{Model}
use Rattle.core_tree.specs.declared.model.Sig.{Sig}
use Rattle.core_tree.specs.declared.model.Field.{Field}
use Rattle.core_meaning.specs.declared.scopes.Scopes.{Scopes}
use Rattle.answer_trace.specs.declared.label.RelationLabel.{RelationLabel}
use Rattle.answer_trace.specs.Owners.{owned, walk}
use Rattle.answer_trace.specs.Made.{IsRelationOf, sig_label_at, field_label_at, field_labels, first_atom, labels_before, relation_labels_of}
use Rattle.answer_trace.proofs.Columns.{sig_column, field_column}

-- one step along links
pub walk_step : (model : Model) (next : List ℕ) (old new : List RelationLabel) (m n link : ℕ) → 0 < link → new ≡ old ++ field_label_at model (m - link) (slice_get model.fields (m - link)) → new ++ field_labels model (walk m next n (slice_index next (link - 1))) ≡ old ++ field_labels model (walk m next (suc n) link)
walk_step model next old new m n zero some is = absurd (omega arith)
walk_step model next old new m n (suc k) some is =
    let at : suc k - 1 ≡ k = omega arith in
    let label = field_label_at model (m - suc k) (slice_get model.fields (m - suc k)) in
    ap (λ (ls : List RelationLabel). ls ++ field_labels model (walk m next n (slice_index next (suc k - 1)))) is
    ∙ ap (λ (j : ℕ). (old ++ label) ++ field_labels model (walk m next n (slice_index next j))) at
    ∙ append_assoc old label (field_labels model (walk m next n (slice_index next k)))

sig_is : (model : Model) (first s : ℕ) (o : Option Sig) → slice_get model.sigs s ≡ o → All (IsRelationOf model) (sig_label_at model first s o)
sig_is model first s None e = All-nil (IsRelationOf model)
sig_is model first s (Some sig) e = All-cons (IsRelationOf model) _ [] (sig_column model s sig e) (All-nil (IsRelationOf model))

field_is : (model : Model) (k : ℕ) (o : Option Field) → slice_get model.fields k ≡ o → All (IsRelationOf model) (field_label_at model k o)
field_is model k None e = All-nil (IsRelationOf model)
field_is model k (Some f) e = All-cons (IsRelationOf model) _ [] (field_column model k f e) (All-nil (IsRelationOf model))

fields_are : (model : Model) (ks : List ℕ) → All (IsRelationOf model) (field_labels model ks)
fields_are model [] = All-nil (IsRelationOf model)
fields_are model (k ∷ ks) = All-append (IsRelationOf model) _ _ (field_is model k (slice_get model.fields k) refl) (fields_are model ks)

before_are : (model : Model) (scopes : Scopes) (n : ℕ) → All (IsRelationOf model) (labels_before model scopes n)
before_are model scopes zero = All-nil (IsRelationOf model)
before_are model scopes (suc s) =
    All-append (IsRelationOf model) _ _ (before_are model scopes s) (All-append (IsRelationOf model) _ _ (sig_is model (first_atom model scopes s) s (slice_get model.sigs s) refl) (fields_are model (owned model s)))

-- each label is that of a relation
pub labels_are : (model : Model) (scopes : Scopes) → All (IsRelationOf model) (relation_labels_of model scopes)
labels_are model scopes = All-append (IsRelationOf model) _ _ (before_are model scopes (length model.sigs)) (fields_are model (owned model (length model.sigs)))
