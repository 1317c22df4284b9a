-- The fields that are joined, as far as the list of the declared ones has come.
use Rattle.std.proofs.Common.{◌≡◌, ◌⊎◌, inl, inr, ℕ, ◌+◌, ◌<◌, ◌≤◌, Bool, IsTrue, List, [], length, get_or, Contains, Some, slice_get, refl, sym, subst, ◌∙◌, arith}
use Rattle.std.proofs.lemmas.Bool.{cases_lt}
use Rattle.std.proofs.lemmas.Option.{slice_get_within, slice_get_read, get_or_from_slice_get}
use Rattle.core_tree.specs.declared.model.Sig.{Sig}
use Rattle.resolve_said.specs.declared.place.OwnField.{OwnField}
use Rattle.resolve_told_sigs.specs.declared.table.FieldDecl.{FieldDecl}
use Rattle.resolve_told_sigs.specs.Own.{AreOwn, IsJoined, IsOwn, own_field}

-- what is joined of the declared fields before number f
pub record AreOwnBefore (sigs : List Sig) (fields : List FieldDecl) (k s n f : ℕ) (own : List OwnField) : Type 0 where
  pub each : (o : OwnField) → Contains own o → IsOwn sigs fields k s n o
  pub every : (g : ℕ) (d : FieldDecl) → g < f → slice_get fields g ≡ Some d → IsJoined sigs k s n d → Contains own (own_field g d)

none_there : (o : OwnField) → Contains [] o → ⊥
none_there o h = omega (arith, h.1)

pub own_none : (sigs : List Sig) (fields : List FieldDecl) (k s n f : ℕ) (own : List OwnField) → f ≡ 0 → own ≡ [] → AreOwnBefore sigs fields k s n f own
own_none sigs fields k s n f own first empty = record {
  each = λ o h. absurd (none_there o (subst (λ (l : List OwnField). Contains l o) empty h));
  every = λ g d lt at joined. absurd (omega (arith, lt, first));
}

-- one field more, which is added just where it is joined
pub own_more : (sigs : List Sig) (fields : List FieldDecl) (k s n f : ℕ) (d : FieldDecl) (joined : Bool) (old new : List OwnField) →
    f < length fields → d ≡ get_or fields f d → (IsTrue joined → IsJoined sigs k s n d) → (IsJoined sigs k s n d → IsTrue joined) →
    ((o : OwnField) → Contains old o → Contains new o) → ((o : OwnField) → Contains new o → Contains old o ⊎ (IsTrue joined × (own_field f d ≡ o))) →
    (IsTrue joined → Contains new (own_field f d)) → AreOwnBefore sigs fields k s n f old → AreOwnBefore sigs fields k s n (f + 1) new
own_more sigs fields k s n f d joined old new lt at there whole kept only added before = record {
  each = λ o h. elim (only o h) [
    | inl x ↦ before.each o x
    | inr y ↦ (f, d, slice_get_read fields (length fields) f d refl lt at, there y.0, y.1)
  ];
  every = λ g e less get is. elim (cases_lt g f) [
    | inl sooner ↦ kept (own_field g e) (before.every g e sooner get is)
    | inr last ↦
        let here : f ≡ g = omega (arith, less, last) in
        let same : d ≡ e = at ∙ get_or_from_slice_get fields f e d (subst (λ j. slice_get fields j ≡ Some e) (sym here) get) in
        subst (λ j. Contains new (own_field j e)) here (subst (λ (x : FieldDecl). Contains new (own_field f x)) same (added (whole (subst (λ (x : FieldDecl). IsJoined sigs k s n x) (sym same) is))))
  ];
}

pub own_whole : (sigs : List Sig) (fields : List FieldDecl) (k s n f : ℕ) (own : List OwnField) → length fields ≤ f → AreOwnBefore sigs fields k s n f own → AreOwn sigs fields k s n own
own_whole sigs fields k s n f own past before = record {
  each = before.each;
  every = λ g d get is. before.every g d (let within = slice_get_within fields g d get in omega (arith, within, past)) get is;
}
