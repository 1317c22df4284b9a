-- Rows are equal where their columns are, and rows that are each there once are at most as many as
-- those among which they are.
use Rattle.std.proofs.Common.{◌≡◌, ◌≤◌, Bool, true, false, ◌&&◌, [], ◌∷◌, Contains, length, refl, sym, ap, ◌∙◌, subst, eqb-true, eq-eqb}
use Rattle.std.specs.List.{IsDistinct}
use Rattle.std.specs.Cmp.{IsEquivalence}
use Rattle.std.proofs.lemmas.Map.Made.{length-le_from_is_member}
use Rattle.std.proofs.lemmas.Map.Views.{list_any-from_Contains, Contains-from_any}
use Rattle.core_tree.specs.declared.model.Column.{Column}
use Rattle.core_tree.specs.declared.model.Column.TheVariants.{Sig as SigColumn, Int as IntColumn}
use Rattle.core_tree.specs.Types.{TypeRow, TypeRows}
use Rattle.resolve_type_check.specs.Same.{same_column, same_row, has_row, Within}

not_true : false ≡ true → ⊥
not_true e = subst (λ b. go b) e tt
  where
    go : Bool → Type 0
    go true = ⊥
    go false = Unit {0}

pub bool_same : (a b : Bool) → (a ≡ true → b ≡ true) → (b ≡ true → a ≡ true) → a ≡ b
bool_same true b f g = sym (f refl)
bool_same false true f g = g refl
bool_same false false f g = refl

pub first_of : (a b : Bool) → (a && b) ≡ true → a ≡ true
first_of true b e = refl
first_of false b e = e

pub second_of : (a b : Bool) → (a && b) ≡ true → b ≡ true
second_of true b e = e
second_of false b e = absurd (not_true e)

column_is : (c d : Column) → same_column c d ≡ true → c ≡ d
column_is IntColumn IntColumn e = refl
column_is IntColumn (SigColumn t) e = absurd (not_true e)
column_is (SigColumn s) IntColumn e = absurd (not_true e)
column_is (SigColumn s) (SigColumn t) e = ap SigColumn (eqb-true s t e)

column_itself : (c : Column) → same_column c c ≡ true
column_itself IntColumn = refl
column_itself (SigColumn s) = eq-eqb s s refl

pub row_is : (a b : TypeRow) → same_row a b ≡ true → a ≡ b
row_is [] [] e = refl
row_is [] (d ∷ b) e = absurd (not_true e)
row_is (c ∷ a) [] e = absurd (not_true e)
row_is (c ∷ a) (d ∷ b) e =
    ap (λ x. x ∷ a) (column_is c d (first_of (same_column c d) (same_row a b) e))
    ∙ ap (λ r. d ∷ r) (row_is a b (second_of (same_column c d) (same_row a b) e))

pub row_itself : (a : TypeRow) → same_row a a ≡ true
row_itself [] = refl
row_itself (c ∷ a) = ap (λ b. b && same_row a a) (column_itself c) ∙ row_itself a

turned : (a b : TypeRow) → same_row a b ≡ true → same_row b a ≡ true
turned a b e = subst (λ r. same_row r a ≡ true) (row_is a b e) (row_itself a)

pub same_row_laws : IsEquivalence same_row
same_row_laws = record {
  refl = row_itself;
  symm = λ x y. bool_same (same_row x y) (same_row y x) (turned x y) (turned y x);
  congr = λ x y z e. ap (λ r. same_row r z) (row_is x y e);
}

pub has_from : (rows : TypeRows) (r : TypeRow) → has_row rows r ≡ true → Contains rows r
has_from rows r e = Contains-from_any row_is r rows e

pub has_to : (rows : TypeRows) (r : TypeRow) → Contains rows r → has_row rows r ≡ true
has_to rows r h = list_any-from_Contains same_row_laws r rows h

pub no_more : (a b : TypeRows) → IsDistinct same_row a → Within a b → length a ≤ length b
no_more a b once w = length-le_from_is_member same_row_laws a b once (λ q h. has_to b q (w q (has_from a q h)))
