-- The rows of a field's declaration.
use Rattle.std.proofs.Common.{◌≡◌, ◌↔◌, ℕ, ◌+◌, ◌<◌, ◌≤◌, List, length, take, get_or, All, Contains, Option, Some, IfSome, sym, subst}
use Rattle.std.proofs.lemmas.List.Elements.{All-more}
use Rattle.core_tree.specs.declared.model.Model.{Model}
use Rattle.core_tree.specs.declared.model.Field.{Field}
use Rattle.core_tree.specs.declared.model.FieldBound.{FieldBound}
use Rattle.core_tree.specs.Trees.{Term, term_of}
use Rattle.core_tree.specs.Types.{TypeRow, TypeRows, NameRows, no_rows, with_rows, sig_rows, row_pairs, type_of}
use Rattle.core_tree.specs.Models.{declared_rows}
use Rattle.resolve_type_check.specs.Typed.{HasDeclaredRows}
use Rattle.resolve_type_check.specs.Same.{SameRows}
use Rattle.resolve_type_check.specs.Names.{SameNames, IsTypeOf}
use Rattle.resolve_type_check.proofs.Monotone.{same_from, same_then, row_pairs_same}
use Rattle.resolve_type_check.proofs.Typing.{with_same, names_themselves, take_all}

pub declared_end : (model : Model) (owner : ℕ) (e : Term) (own rows all : TypeRows) (names : NameRows) → SameRows own (sig_rows model.sigs (length model.sigs) owner) → names ≡ with_rows no_rows 0 own → IsTypeOf model e names rows → all ≡ row_pairs own rows → SameRows all (declared_rows model owner e)
declared_end model owner e own rows all names is named t made =
    let sig = sig_rows model.sigs (length model.sigs) owner in
    let this = with_rows no_rows 0 sig in
    let same : SameNames names this = subst (λ f. SameNames f this) (sym named) (with_same no_rows no_rows 0 own sig (names_themselves no_rows) is) in
    same_then all (row_pairs own rows) (declared_rows model owner e) (same_from all (row_pairs own rows) made)
    (row_pairs_same own rows sig (type_of model e this) is (t this same))

pub rows_end : (model : Model) (s : ℕ) (e : Term) (rows there found own : TypeRows) (o : Option TypeRows) → there ≡ rows → own ≡ found → o ≡ Some found → IfSome o (λ l. SameRows l (declared_rows model s e)) → SameRows there own → SameRows rows (declared_rows model s e)
rows_end model s e rows there found own o et eo is has same =
    same_then rows own (declared_rows model s e) (subst (λ (a : TypeRows). SameRows a own) et same)
    (subst (λ (a : TypeRows). SameRows a (declared_rows model s e)) (sym eo) (subst (λ (x : Option TypeRows). IfSome x (λ l. SameRows l (declared_rows model s e))) is has))

pub has_end : (model : Model) (f : Field) (s : ℕ) (d : FieldBound) → f.owner ≡ Some s → f.declared ≡ Some d → SameRows f.rows (declared_rows model s (term_of d.bound.expr)) → HasDeclaredRows model f
has_end model f s d es ed same =
    subst (λ (o : Option ℕ). IfSome o (λ k. IfSome f.declared (λ g. (r : TypeRow) → Contains f.rows r ↔ Contains (declared_rows model k (term_of g.bound.expr)) r))) (sym es)
    (subst (λ (o : Option FieldBound). IfSome o (λ g. (r : TypeRow) → Contains f.rows r ↔ Contains (declared_rows model s (term_of g.bound.expr)) r)) (sym ed)
    (λ r. (same.to r, same.back r)))

pub all_more : {X : Type 0} (P : X → Type 0) (l : List X) (i : ℕ) (g : X) → i < length l → g ≡ get_or l i g → All P (take i l) → P g → All P (take (i + 1) l)
all_more P l i g lt item all here = All-more P l i g lt all (subst P item here)

pub all_whole : {X : Type 0} (P : X → Type 0) (l : List X) (i : ℕ) → length l ≤ i → All P (take i l) → All P l
all_whole {X = X} P l i le all = subst (λ (k : List X). All P k) (take_all l i le) all
