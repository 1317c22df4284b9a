-- Names that come into scope one after the other.
use Rattle.std.proofs.Common.{◌≡◌, ℕ, zero, suc, ◌+◌, ◌<◌, ◌≤◌, List, [], ◌∷◌, ◌++◌, map, take, length, get_or, if◌then◌else◌, eqb, Option, Some, None, refl, sym, ap, ◌∙◌, subst, arith}
use Rattle.std.proofs.lemmas.List.{take_more, map-append}
use Rattle.core_tree.specs.declared.tree.Variable.{Variable}
use Rattle.core_tree.specs.Trees.{Binder, variable_of, variable_list}
use Rattle.core_tree.specs.Columns.{Columns, with_columns}
use Rattle.resolve_check.specs.declared.names.Named.{Named}
use Rattle.resolve_check.specs.Names.{names_over, names_of}
use Rattle.resolve_check.specs.Fits.{names_after, how_many}

pub over_more : (ns : List Named) (before : Columns) (n : Named) → names_over before (ns ++ n ∷ []) ≡ with_columns (names_over before ns) n.name n.columns
over_more [] before n = refl
over_more (m ∷ ns) before n = over_more ns (with_columns before m.name m.columns) n

pub one_more : (ns all : List Named) (n : Named) → all ≡ ns ++ n ∷ [] → names_of all ≡ with_columns (names_of ns) n.name n.columns
one_more ns all n e = ap names_of e ∙ over_more ns (λ x. None) n

pub after_last : (vs : List Binder) (v : Binder) (names : Columns) → names_after (variable_list (vs ++ v ∷ [])) names ≡ with_columns (names_after (variable_list vs) names) v.name 1
after_last [] v names = refl
after_last (w ∷ vs) v names = after_last vs v (with_columns names w.name 1)

pub whole : {X : Type 0} (l : List X) (k : ℕ) → length l ≤ k → take k l ≡ l
whole [] zero low = refl
whole [] (suc k) low = refl
whole (x ∷ l) zero low = absurd (omega (arith, low))
whole (x ∷ l) (suc k) low = ap (λ r. x ∷ r) (whole l k (omega (arith, low)))

pub binders_more : (l : List Variable) (i : ℕ) (d : Variable) → i < length l → map variable_of (take (i + 1) l) ≡ map variable_of (take i l) ++ variable_of (get_or l i d) ∷ []
binders_more l i d lt = ap (map variable_of) (take_more l i d lt) ∙ map-append variable_of (take i l) (get_or l i d ∷ [])

pub after_more : (l : List Variable) (i : ℕ) (d : Variable) (names : Columns) → i < length l → names_after (variable_list (map variable_of (take (i + 1) l))) names ≡ with_columns (names_after (variable_list (map variable_of (take i l))) names) (get_or l i d).name 1
after_more l i d names lt = ap (λ vs. names_after (variable_list vs) names) (binders_more l i d lt) ∙ after_last (map variable_of (take i l)) (variable_of (get_or l i d)) names

pub found_more : (ns : List Named) (i : ℕ) (d : Named) (x : ℕ) → i < length ns → names_of (take (i + 1) ns) x ≡ with_columns (names_of (take i ns)) (get_or ns i d).name (get_or ns i d).columns x
found_more ns i d x lt = ap (λ ms. names_of ms x) (take_more ns i d lt) ∙ ap (λ (f : Columns). f x) (over_more (take i ns) (λ x. None) (get_or ns i d))

pub found_all : (ns : List Named) (i : ℕ) (x : ℕ) → length ns ≤ i → names_of (take i ns) x ≡ names_of ns x
found_all ns i x le = ap (λ ms. names_of ms x) (whole ns i le)

pub count_is : (l : List Variable) → how_many (variable_list (map variable_of l)) ≡ length l
count_is [] = refl
count_is (v ∷ l) = ap suc (count_is l)
