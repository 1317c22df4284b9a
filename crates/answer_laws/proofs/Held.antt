-- The labels of a model are labels under which there are lassos.
use Rattle.std.proofs.Common.{◌≡◌, inl, inr, ℕ, zero, suc, ◌+◌, ◌<◌, ◌≤◌, ◌^◌, ◌==◌, Bool, true, false, List, [], ◌∷◌, length, All, Option, Some, slice_get, refl, sym, ap, ◌∙◌, subst, arith}
use Rattle.std.proofs.lemmas.Bool.{cases_lt}
use Rattle.std.proofs.lemmas.List.{length-append}
use Rattle.std.proofs.lemmas.Option.{slice_get_within, get_or_from_slice_get}
use Rattle.core_tree.specs.declared.model.Model.{Model}
use Rattle.core_tree.specs.declared.model.Sig.{Sig}
use Rattle.core_tree.specs.declared.model.Field.{Field}
use Rattle.core_tree.specs.Columns.{IsFew}
use Rattle.core_meaning.specs.declared.scopes.SigScope.{SigScope}
use Rattle.core_meaning.specs.declared.scopes.Scopes.{Scopes}
use Rattle.answer_trace.specs.declared.label.Labels.{Labels}
use Rattle.answer_trace.specs.declared.label.RelationLabel.{RelationLabel}
use Rattle.answer_trace.specs.declared.make.Naming.{Naming}
use Rattle.answer_trace.specs.declared.make.Naming.TheVariants.{Literal, Strings, Numbered}
use Rattle.answer_trace.specs.Made.{naming_of, named_texts, nth_texts, texts_before, integer_texts, universe_texts, shown_as, first_atom, relation_labels_of}
use Rattle.answer_trace.proofs.CountLaws.{labels_count}
use Rattle.answer_laws.specs.Form.{HasNoFeed, HasAtom, HaveLassos}
use Rattle.answer_laws.specs.Labelled.{IsLabelOf, IsLabelled, AreNumbered, AreLabelsOf}
use Rattle.answer_laws.proofs.LabelsApart.{all_of}
use Rattle.answer_laws.proofs.Bytes.{literal_line, no_feed}
use Rattle.answer_laws.proofs.Atoms.{texts_are_atoms, texts_are_lines, texts_differ}
use Rattle.answer_laws.proofs.Relations.{IsBelow, labels_are, labels_differ, below_within, places_found}
use Rattle.answer_laws.proofs.Relations.IsBelow.{sig_below, field_below}

-- more sigs have no fewer texts
later_texts : (sigs : List Sig) (numbers : List SigScope) (n s : ℕ) → s ≤ n → length (texts_before sigs numbers s) ≤ length (texts_before sigs numbers n)
later_texts sigs numbers zero s le = let e : s ≡ 0 = omega arith in subst (λ (i : ℕ). length (texts_before sigs numbers i) ≤ length (texts_before sigs numbers 0)) (sym e) (omega arith)
later_texts sigs numbers (suc n) s le = elim (cases_lt s (suc n)) [
  | inl lt ↦ (
      let rest = later_texts sigs numbers n s (omega (arith, lt)) in
      let more = length-append (texts_before sigs numbers n) (nth_texts (slice_get sigs n) (slice_get numbers n)) in
      omega (arith, rest, more)
      )
  | inr ge ↦ subst (λ (i : ℕ). length (texts_before sigs numbers i) ≤ length (texts_before sigs numbers (suc n))) (let e : suc n ≡ s = omega (arith, ge, le) in e) (omega arith)
]

some_scope : (numbers : List SigScope) (k : ℕ) → k < length numbers → (x : SigScope) × (slice_get numbers k ≡ Some x)
some_scope [] k lt = absurd (omega arith)
some_scope (x ∷ xs) zero lt = (x, refl)
some_scope (x ∷ xs) (suc k) lt = some_scope xs k (omega arith)

naming_line : (naming : Naming) (label : List ℕ) → IsLabelOf naming label → HasNoFeed label
naming_line Literal label is = literal_line label is
naming_line Strings label is = is
naming_line Numbered label is = no_feed label is.stops

module _ (model : Model) (scopes : Scopes) (labelled : IsLabelled model) (numbered : AreNumbered model scopes) where
  sig_line : (s : ℕ) (sig : Sig) → slice_get model.sigs s ≡ Some sig → HasNoFeed sig.label
  sig_line s sig e = subst (λ (d : Sig). HasNoFeed d.label) (get_or_from_slice_get model.sigs s sig sig e) (naming_line _ _ (labelled.sigs s sig (slice_get_within model.sigs s sig e)))

  field_line : (k : ℕ) (f : Field) → slice_get model.fields k ≡ Some f → HasNoFeed f.label
  field_line k f e = subst (λ (d : Field). HasNoFeed d.label) (get_or_from_slice_get model.fields k f f e) (labelled.fields k f (slice_get_within model.fields k f e))

  field_few : (k : ℕ) (f : Field) → slice_get model.fields k ≡ Some f → IsFew f.columns
  field_few k f e = subst (λ (d : Field). IsFew d.columns) (get_or_from_slice_get model.fields k f f e) (labelled.columns k f (slice_get_within model.fields k f e))

  -- a literal's atom is one of the universe
  first_inside : (s : ℕ) (sig : Sig) → slice_get model.sigs s ≡ Some sig → naming_of sig.origin sig.kind ≡ Literal → first_atom model scopes s < length (universe_texts model scopes)
  first_inside s sig e literal =
      let lt = slice_get_within model.sigs s sig e in
      let same = numbered.sigs in
      let (scope, f) = some_scope scopes.numbers s (omega (arith, lt, same)) in
      let one : length (nth_texts (slice_get model.sigs s) (slice_get scopes.numbers s)) ≡ 1 = ap (λ (o : Option Sig). length (nth_texts o (slice_get scopes.numbers s))) e ∙ ap (λ (q : Option SigScope). length (nth_texts (Some sig) q)) f ∙ ap (λ (n : Naming). length (named_texts n sig.label scope)) literal in
      let more = length-append (texts_before model.sigs scopes.numbers s) (nth_texts (slice_get model.sigs s) (slice_get scopes.numbers s)) in
      let later = later_texts model.sigs scopes.numbers (length model.sigs) (suc s) (omega (arith, lt)) in
      let all = length-append (texts_before model.sigs scopes.numbers (length model.sigs)) (integer_texts scopes.bits (2 ^ scopes.bits)) in
      omega (arith, one, more, later, all)

  -- a label of a model, in one line, with one to nine columns, and with a place
  label_line : (n : ℕ) (r : RelationLabel) → IsBelow model scopes n r → HasNoFeed r.label
  label_line n r (sig_below s lt is) = subst (λ (l : RelationLabel). HasNoFeed l.label) (sym is.is) (sig_line s is.sig is.at)
  label_line n r (field_below k lt is) = subst (λ (l : RelationLabel). HasNoFeed l.label) (sym is.is) (field_line k is.field is.at)

  label_few : (n : ℕ) (r : RelationLabel) → IsBelow model scopes n r → IsFew r.columns
  label_few n r (sig_below s lt is) = subst (λ (l : RelationLabel). IsFew l.columns) (sym is.is) (omega arith, omega arith)
  label_few n r (field_below k lt is) = subst (λ (l : RelationLabel). IsFew l.columns) (sym is.is) (field_few k is.field is.at)

  made : Labels
  made = record { relations = relation_labels_of model scopes; atoms = universe_texts model scopes }

  shown_atom : (naming : Naming) (last : Bool) (first : ℕ) → (naming ≡ Literal → first < length (universe_texts model scopes)) → HasAtom made 1 (shown_as naming last first)
  unfolding made
  shown_atom Numbered last first inside = tt
  shown_atom Literal last first inside = (refl, inside refl, (let lt = inside refl in let small = numbered.atoms in omega (arith, lt, small)))
  shown_atom Strings true first inside = tt
  shown_atom Strings false first inside = tt

  label_atom : (n : ℕ) (r : RelationLabel) → IsBelow model scopes n r → HasAtom made r.columns r.shown
  label_atom n r (sig_below s lt is) =
      subst (λ (l : RelationLabel). HasAtom made l.columns l.shown) (sym is.is)
      (shown_atom (naming_of is.sig.origin is.sig.kind) (s + 1 == length model.sigs) (first_atom model scopes s) (λ literal. first_inside s is.sig is.at literal))
  label_atom n r (field_below k lt is) = subst (λ (l : RelationLabel). HasAtom made l.columns l.shown) (sym is.is) tt

  each_label : (P : RelationLabel → Type 0) → ((r : RelationLabel) → IsBelow model scopes (suc (length model.sigs)) r → P r) → All P (relation_labels_of model scopes)
  each_label P each = all_of P (relation_labels_of model scopes) (λ r c. each r (labels_are model scopes r c))

  made_has : HaveLassos made
  unfolding made
  made_has = record {
    lines = record {
      form = record {
        atoms = texts_are_atoms model labelled scopes numbered;
        distinct = texts_differ model labelled scopes numbered;
        places = places_found model scopes;
      };
      texts = texts_are_lines model labelled scopes numbered;
      names = each_label (λ (r : RelationLabel). HasNoFeed r.label) (label_line (suc (length model.sigs)));
    };
    columns = each_label (λ (r : RelationLabel). IsFew r.columns) (label_few (suc (length model.sigs)));
    hidden = each_label (λ (r : RelationLabel). HasAtom made r.columns r.shown) (label_atom (suc (length model.sigs)));
    within = each_label (λ (r : RelationLabel). r.place < length (relation_labels_of model scopes)) (λ r is. let count = labels_count model scopes in let lt = below_within model scopes (suc (length model.sigs)) r is in omega (arith, count, lt));
    once = labels_differ model scopes;
  }

  same_labels : (labels : Labels) → AreLabelsOf model scopes labels → made ≡ labels
  unfolding made
  same_labels labels are = sym (ap (λ (rs : List RelationLabel). record { relations = rs; atoms = labels.atoms }) are.relations ∙ ap (λ (ts : List (List ℕ)). record { relations = relation_labels_of model scopes; atoms = ts }) are.atoms)

  pub labels_have : (labels : Labels) → AreLabelsOf model scopes labels → HaveLassos labels
  labels_have labels are = subst HaveLassos (same_labels labels are) made_has
