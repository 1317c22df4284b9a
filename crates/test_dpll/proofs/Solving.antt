-- A path under which each clause is true gives a solution.
use Rattle.std.proofs.Common.{◌≡◌, ℕ, zero, suc, ◌+◌, ◌-◌, ◌<◌, ◌≤◌, ℤ, pos, negsuc, nat_abs, Bool, true, false, not, List, [], ◌∷◌, map, length, get_or, Option, Some, None, IsTrue, IsSomeAnd, slice_get, All, refl, sym, ap, ◌∙◌, subst, arith, inl, inr}
use Rattle.std.specs.List.{list_any, AllByRecursion}
use Rattle.std.proofs.lemmas.Bool.{or_cases, or_left, or_right}
use Rattle.std.proofs.lemmas.List.{get_or-map, length-map}
use Rattle.std.proofs.lemmas.List.Elements.{recursion_from_All}
use Rattle.sat_dimacs.specs.Literal.{literal_value, Satisfies, IsWithin, value_of, IsSolution}
use Rattle.test_dpll.specs.declared.path.Path.{Path}
use Rattle.test_dpll.specs.Steps.{value_by, under, is_true}
use Rattle.test_dpll.specs.Path.{steps_of, IsPath}
use Rattle.test_dpll.specs.Scan.{is_true_literal}
use Rattle.test_dpll.proofs.Values.{value_zero}

-- what is read at a place is what is there
pub get_there : {X : Type 0} (xs : List X) (i : ℕ) (x : X) → i < length xs → x ≡ get_or xs i x → slice_get xs i ≡ Some x
get_there [] i x h e = absurd (omega arith)
get_there (y ∷ ys) zero x h e = ap Some (sym e)
get_there (y ∷ ys) (suc i) x h e = get_there ys i x (omega arith) e

get_some : {X : Type 0} (xs : List X) (i : ℕ) (d : X) → i < length xs → slice_get xs i ≡ Some (get_or xs i d)
get_some [] i d h = absurd (omega arith)
get_some (y ∷ ys) zero d h = refl
get_some (y ∷ ys) (suc i) d h = get_some ys i d (omega arith)

-- the value of a variable
bool_at : (path : Path) (n : ℕ) → IsPath path → n < length path.values.items → value_of (map is_true path.values.items) (suc n) ≡ is_true (value_by (steps_of path) (suc n))
bool_at path n ok h =
    let less : suc n - 1 ≡ n = omega arith in
    let more : n + 1 ≡ suc n = omega arith in
    ap (λ k. get_or (map is_true path.values.items) k false) less
    ∙ get_or-map is_true path.values.items n None false h
    ∙ ap is_true (ok.values n h ∙ ap (value_by (steps_of path)) more)

under_pos : (n : ℕ) (o : Option Bool) → is_true (under (pos n) o) ≡ is_true o
under_pos n None = refl
under_pos n (Some b) = refl

under_neg : (n : ℕ) (o : Option Bool) → is_true (under (negsuc n) o) ≡ true → not (is_true o) ≡ true
under_neg n None e = cc
under_neg n (Some b) e = e

-- a literal that is true on the path is true
true_literal : (path : Path) (x : ℤ) → IsPath path → nat_abs x ≤ length path.values.items → is_true_literal path x ≡ true → literal_value (value_of (map is_true path.values.items)) x ≡ true
true_literal path (pos zero) ok h e =
    let none : value_by (steps_of path) 0 ≡ None = value_zero (length path.values.items) (steps_of path) ok.apart in
    let bad : false ≡ true = sym (ap (λ o. is_true (under (pos zero) o)) none) ∙ e in cc
true_literal path (pos (suc n)) ok h e = bool_at path n ok (omega arith) ∙ sym (under_pos (suc n) (value_by (steps_of path) (suc n))) ∙ e
true_literal path (negsuc n) ok h e = ap not (bool_at path n ok (omega arith)) ∙ under_neg n (value_by (steps_of path) (suc n)) e

true_clause : (path : Path) (clause : List ℤ) → IsPath path → AllByRecursion (λ x. nat_abs x ≤ length path.values.items) clause → list_any (is_true_literal path) clause ≡ true
    → list_any (literal_value (value_of (map is_true path.values.items))) clause ≡ true
true_clause path [] ok within e = e
true_clause path (x ∷ xs) ok within e = elim (or_cases (is_true_literal path x) (list_any (is_true_literal path) xs) e) [
  | inl here ↦ or_left (literal_value (value_of (map is_true path.values.items)) x) (list_any (literal_value (value_of (map is_true path.values.items))) xs) (true_literal path x ok within.0 here)
  | inr later ↦ or_right (literal_value (value_of (map is_true path.values.items)) x) (list_any (literal_value (value_of (map is_true path.values.items))) xs) (true_clause path xs ok within.1 later)
]

pub solution : (path : Path) (most : ℕ) (clauses : List (List ℤ)) (values : List Bool) → IsPath path → length path.values.items ≡ most → All (IsWithin most) clauses
    → ((k : ℕ) → k < length clauses → IsSomeAnd (slice_get clauses k) (λ clause. IsTrue (list_any (is_true_literal path) clause)))
    → values ≡ map is_true path.values.items → IsSolution most clauses values
solution path most clauses values ok size within each e = record {
  complete = ap length e ∙ length-map path.values.items is_true ∙ size;
  satisfies = subst (λ vs. Satisfies (value_of vs) clauses) (sym e) all;
}
  where
    all : Satisfies (value_of (map is_true path.values.items)) clauses
    all k d below =
        let P : Option (List ℤ) → Type 0 = λ o. IsSomeAnd o (λ clause. IsTrue (list_any (is_true_literal path) clause)) in
        let there : IsTrue (list_any (is_true_literal path) (get_or clauses k d)) = subst P (get_some clauses k d below) (each k below) in
        let inside : IsWithin (length path.values.items) (get_or clauses k d) = subst (λ n. IsWithin n (get_or clauses k d)) (sym size) (within k d below) in
        true_clause path (get_or clauses k d) ok (recursion_from_All (λ x. nat_abs x ≤ length path.values.items) (get_or clauses k d) inside) there
