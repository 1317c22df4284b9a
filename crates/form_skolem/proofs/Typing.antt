-- The types of parameters' bounds, and the fields that have them.
use Rattle.std.proofs.Common.{◌≡◌, ℕ, suc, ◌+◌, ◌<◌, ◌≤◌, Bool, true, false, List, [], ◌∷◌, ◌++◌, drop, length, get_or, Some, refl, ap, sym, ◌∙◌, subst, append_assoc, add-one}
use Rattle.std.specs.Prelude.{if◌then◌else◌, slice_get}
use Rattle.std.proofs.lemmas.List.{append-nil, drop_all, drop_more}
use Rattle.std.proofs.lemmas.Option.{get_or_from_slice_get, slice_get_within}
use Rattle.core_tree.specs.declared.model.Model.{Model}
use Rattle.core_tree.specs.declared.model.Sig.{Sig}
use Rattle.core_tree.specs.declared.model.Field.{Field}
use Rattle.core_tree.specs.declared.model.Parameter.{Parameter}
use Rattle.core_tree.specs.Trees.{term_of}
use Rattle.core_tree.specs.Columns.{Columns, no_columns, with_columns, columns_in}
use Rattle.core_tree.specs.Models.{parameter_columns, plain_shapes}
use Rattle.core_tree.specs.Types.{TypeRows, NameRows, no_rows, with_rows, type_of}
use Rattle.resolve_type_check.specs.declared.names.NamedRows.{NamedRows}
use Rattle.resolve_type_check.specs.Names.{names_of, SameNames}
use Rattle.resolve_type_check.proofs.Typing.{with_same, names_themselves}
use Rattle.form_skolem.specs.declared.bounds.BoundType.{BoundType}
use Rattle.form_skolem.specs.Opened.{TypedParameter, is_relation, typed_from, relations, labels, IsLabel, IsFieldFor, AddsFields}
use Rattle.form_skolem.specs.Steps.{with_type, with_types, AreTypes, IsBoundType, AreTypesSoFar}

pub drop_at : {X : Type 0} (xs : List X) (place : ℕ) (x : X) → slice_get xs place ≡ Some x → drop place xs ≡ x ∷ drop (place + 1) xs
drop_at xs place x at = drop_more xs place x (slice_get_within xs place x at) ∙ ap (λ y. y ∷ drop (place + 1) xs) (get_or_from_slice_get xs place x x at)

abbrev rest_of : List ℕ → List ℕ
rest_of [] = []
rest_of (x ∷ xs) = xs

abbrev first_or : ℕ → List ℕ → ℕ
first_or d [] = d
first_or d (x ∷ xs) = x

-- names and one more inside them
pub named_next : (old text made : List NamedRows) (k : ℕ) (rows given : TypeRows) → made ≡ record { name = k; rows = given } ∷ text → text ≡ old → given ≡ rows → names_of made ≡ with_rows (names_of old) k rows
named_next old text made k rows given is same equal = ap names_of is ∙ ap (λ (ns : List NamedRows). with_rows (names_of ns) k given) same ∙ ap (λ (rs : TypeRows). with_rows (names_of old) k rs) equal

-- no type is found yet
pub found_none : (model : Model) (all : List ℕ) (ps : List Parameter) (names : List NamedRows) (found : List BoundType) → all ≡ parameter_columns (plain_shapes model) ps 0 no_columns → names ≡ [] → found ≡ [] → AreTypesSoFar model all ps 0 (names_of names) found
found_none model all ps names found e none nothing =
    subst (λ (ns : List NamedRows). AreTypesSoFar model all ps 0 (names_of ns) found) (sym none) (subst (λ (bs : List BoundType). AreTypesSoFar model all ps 0 no_rows bs) (sym nothing)
    (record { columns = no_columns; rows = no_rows; left = e; same = names_themselves no_rows; leads = λ rest h. h }))

-- a type more is found
pub found_more : (model : Model) (all : List ℕ) (ps : List Parameter) (place : ℕ) (p : Parameter) (names further : NameRows) (found more : List BoundType) (b : BoundType) → place < length ps → p ≡ get_or ps place p → IsBoundType model names all place p b →
    further ≡ with_rows names place b.rows → more ≡ found ++ b ∷ [] → AreTypesSoFar model all ps place names found → AreTypesSoFar model all ps (place + 1) further more
found_more model all ps place p names further found more b low read is named pushed before =
    let count : ℕ = columns_in (plain_shapes model) (term_of p.bound.expr) before.columns in
    let rows : TypeRows = type_of model (term_of p.bound.expr) before.rows in
    let columns : Columns = with_columns before.columns place count in
    let own : NameRows = with_rows before.rows place rows in
    let here : drop place ps ≡ p ∷ drop (place + 1) ps = drop_more ps place p low ∙ ap (λ q. q ∷ drop (place + 1) ps) (sym read) in
    let both : b.columns ∷ drop (place + 1) all ≡ count ∷ parameter_columns (plain_shapes model) (drop (place + 1) ps) (suc place) columns =
    sym (drop_at all place b.columns is.columns_are) ∙ before.left ∙ ap (λ qs. parameter_columns (plain_shapes model) qs place before.columns) here in
    record {
      columns = columns;
      rows = own;
      left = ap rest_of both ∙ ap (λ k. parameter_columns (plain_shapes model) (drop (place + 1) ps) k columns) (sym (add-one place));
      same = subst (λ (n : NameRows). SameNames n own) (sym named) (with_same names before.rows place b.rows rows before.same (is.rows_are before.rows before.same));
      leads = λ rest h.
          subst (λ (bs : List BoundType). AreTypes bs (typed_from model 0 ps no_columns no_rows)) (sym (append_assoc found (b ∷ []) rest) ∙ ap (λ bs. bs ++ rest) (sym pushed))
          (before.leads (b ∷ rest) (subst (λ qs. AreTypes (b ∷ rest) (typed_from model place qs before.columns before.rows)) (sym here)
          (ap (first_or 0) both, is.rows_are before.rows before.same, subst (λ k. AreTypes rest (typed_from model k (drop (place + 1) ps) columns own)) (add-one place) h)));
    }

-- all types are found
pub found_all : (model : Model) (all : List ℕ) (ps : List Parameter) (place : ℕ) (names : NameRows) (found : List BoundType) → length ps ≤ place → AreTypesSoFar model all ps place names found → AreTypes found (typed_from model 0 ps no_columns no_rows)
found_all model all ps place names found end s =
    subst (λ (bs : List BoundType). AreTypes bs (typed_from model 0 ps no_columns no_rows)) (append-nil found)
    (s.leads [] (subst (λ qs. AreTypes [] (typed_from model place qs s.columns s.rows)) (sym (drop_all place ps end)) tt))

stands_too : (taken : List (List ℕ)) (p : Parameter) (b : BoundType) (t : TypedParameter) (f : Field) → p ≡ t.parameter → AreTypes (b ∷ []) (t ∷ []) → IsFieldFor taken (with_type p b) f → IsFieldFor taken t f
stands_too taken p b t f e (columns, same, u) s = record {
  label = subst (λ (q : Parameter). IsLabel taken (36 ∷ q.label) f.label) e s.label;
  static = s.static;
  owner = s.owner;
  declared = s.declared;
  columns = s.columns ∙ columns;
  rows = λ r. ((λ h. same.to r ((s.rows r).0 h)), (λ h. (s.rows r).1 (same.back r h)));
}

-- fields with the types that were found are those that parameters ask for
pub typed_fields : (model : Model) (sigs : List Sig) (old new : List Field) (k : ℕ) (ps : List Parameter) (columns : Columns) (rows : NameRows) (bs : List BoundType) → AreTypes bs (typed_from model k ps columns rows) → AddsFields sigs old (relations (with_types ps bs)) new →
    AddsFields sigs old (relations (typed_from model k ps columns rows)) new
typed_fields model sigs old new k [] columns rows bs are adds = adds
typed_fields model sigs old new k (p ∷ ps) columns rows [] are adds = absurd are
typed_fields model sigs old new k (p ∷ ps) columns rows (b ∷ bs) (count, same, are) adds =
    by_word (is_relation p) (record { parameter = p; columns = columns_in (plain_shapes model) (term_of p.bound.expr) columns; rows = type_of model (term_of p.bound.expr) rows })
    (typed_from model (suc k) ps (with_columns columns k (columns_in (plain_shapes model) (term_of p.bound.expr) columns)) (with_rows rows k (type_of model (term_of p.bound.expr) rows)))
    refl (count, same, tt) adds
    (λ o h. typed_fields model sigs o new (suc k) ps (with_columns columns k (columns_in (plain_shapes model) (term_of p.bound.expr) columns)) (with_rows rows k (type_of model (term_of p.bound.expr) rows)) bs are h)
  where
    by_word : (w : Bool) (t : TypedParameter) (ts : List TypedParameter) → p ≡ t.parameter → AreTypes (b ∷ []) (t ∷ []) → AddsFields sigs old (if w then with_type p b ∷ relations (with_types ps bs) else relations (with_types ps bs)) new →
        ((o : List Field) → AddsFields sigs o (relations (with_types ps bs)) new → AddsFields sigs o (relations ts) new) → AddsFields sigs old (if w then t ∷ relations ts else relations ts) new
    by_word true t ts e are_types (f, stands, further) rest = (f, stands_too (labels sigs old) p b t f e are_types stands, rest (old ++ f ∷ []) further)
    by_word false t ts e are_types h rest = rest old h
