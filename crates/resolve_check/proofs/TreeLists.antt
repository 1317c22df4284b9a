-- Lists of parts that fit, one after the other.
use Rattle.std.proofs.Common.{◌≡◌, ℕ, zero, suc, ◌+◌, ◌<◌, ◌≤◌, Bool, true, false, ◌&&◌, List, [], ◌∷◌, ◌++◌, map, take, length, get_or, refl, sym, ap, ◌∙◌, subst, arith}
use Rattle.std.proofs.lemmas.List.{take_more, map-append}
use Rattle.core_tree.specs.declared.tree.Variable.{Variable}
use Rattle.core_tree.specs.declared.tree.Formula.{Formula}
use Rattle.core_tree.specs.declared.tree.Expr.{Expr}
use Rattle.core_tree.specs.Trees.{Term, Claim, Binder, term_of, claim_of, variable_of, term_list, claim_list, variable_list}
use Rattle.core_tree.specs.Columns.{Columns, with_columns}
use Rattle.resolve_check.specs.declared.shape.Shape.{Shape}
use Rattle.resolve_check.specs.declared.shape.Limits.{Limits}
use Rattle.resolve_check.specs.Fits.{names_after, is_single, has_columns, columns_at, is_right, are_right_variables, are_right_arguments, are_right}
use Rattle.resolve_check.proofs.NameLists.{binders_more, whole}

and_true : (x : Bool) → x ≡ (x && true)
and_true true = refl
and_true false = refl

and_assoc : (x y z : Bool) → (x && (y && z)) ≡ ((x && y) && z)
and_assoc true y z = refl
and_assoc false y z = refl

module _ (shape : Shape) (limits : Limits) where
  variables_last : (vs : List Binder) (v : Binder) (names : Columns) → are_right_variables shape limits (variable_list (vs ++ v ∷ [])) names ≡ (are_right_variables shape limits (variable_list vs) names && is_single (columns_at shape limits v.bound (names_after (variable_list vs) names)))
  variables_last [] v names = sym (and_true (is_single (columns_at shape limits v.bound names)))
  variables_last (w ∷ vs) v names = ap (λ b. is_single (columns_at shape limits w.bound names) && b) (variables_last vs v (with_columns names w.name 1)) ∙ and_assoc (is_single (columns_at shape limits w.bound names)) (are_right_variables shape limits (variable_list vs) (with_columns names w.name 1)) (is_single (columns_at shape limits v.bound (names_after (variable_list vs) (with_columns names w.name 1))))

  pub variables_more : (l : List Variable) (i : ℕ) (d : Variable) (names : Columns) → i < length l → are_right_variables shape limits (variable_list (map variable_of (take (i + 1) l))) names ≡ (are_right_variables shape limits (variable_list (map variable_of (take i l))) names && is_single (columns_at shape limits (term_of (get_or l i d).bound) (names_after (variable_list (map variable_of (take i l))) names)))
  variables_more l i d names lt = ap (λ vs. are_right_variables shape limits (variable_list vs) names) (binders_more l i d lt) ∙ variables_last (map variable_of (take i l)) (variable_of (get_or l i d)) names

  pub variables_all : (l : List Variable) (i : ℕ) (names : Columns) → length l ≤ i → are_right_variables shape limits (variable_list (map variable_of (take i l))) names ≡ are_right_variables shape limits (variable_list (map variable_of l)) names
  variables_all l i names le = ap (λ vs. are_right_variables shape limits (variable_list (map variable_of vs)) names) (whole l i le)

  claims_last : (fs : List Claim) (f : Claim) (names : Columns) → are_right shape limits (claim_list (fs ++ f ∷ [])) names ≡ (are_right shape limits (claim_list fs) names && is_right shape limits f names)
  claims_last [] f names = sym (and_true (is_right shape limits f names))
  claims_last (g ∷ fs) f names = ap (λ b. is_right shape limits g names && b) (claims_last fs f names) ∙ and_assoc (is_right shape limits g names) (are_right shape limits (claim_list fs) names) (is_right shape limits f names)

  pub claims_more : (l : List Formula) (i : ℕ) (d : Formula) (names : Columns) → i < length l → are_right shape limits (claim_list (map claim_of (take (i + 1) l))) names ≡ (are_right shape limits (claim_list (map claim_of (take i l))) names && is_right shape limits (claim_of (get_or l i d)) names)
  claims_more l i d names lt = ap (λ ys. are_right shape limits (claim_list (map claim_of ys)) names) (take_more l i d lt) ∙ ap (λ ys. are_right shape limits (claim_list ys) names) (map-append claim_of (take i l) (get_or l i d ∷ [])) ∙ claims_last (map claim_of (take i l)) (claim_of (get_or l i d)) names

  pub claims_all : (l : List Formula) (i : ℕ) (names : Columns) → length l ≤ i → are_right shape limits (claim_list (map claim_of (take i l))) names ≡ are_right shape limits (claim_list (map claim_of l)) names
  claims_all l i names le = ap (λ ys. are_right shape limits (claim_list (map claim_of ys)) names) (whole l i le)

  pub arguments_last : (es : List Term) (e : Term) (ns : List ℕ) (n : ℕ) (names : Columns) → length es ≡ length ns → are_right_arguments shape limits (term_list (es ++ e ∷ [])) names (ns ++ n ∷ []) ≡ (are_right_arguments shape limits (term_list es) names ns && has_columns (columns_at shape limits e names) n)
  arguments_last [] e [] n names same = sym (and_true (has_columns (columns_at shape limits e names) n))
  arguments_last [] e (m ∷ ns) n names same = absurd (omega (arith, same))
  arguments_last (d ∷ es) e [] n names same = absurd (omega (arith, same))
  arguments_last (d ∷ es) e (m ∷ ns) n names same = ap (λ b. has_columns (columns_at shape limits d names) m && b) (arguments_last es e ns n names (omega (arith, same))) ∙ and_assoc (has_columns (columns_at shape limits d names) m) (are_right_arguments shape limits (term_list es) names ns) (has_columns (columns_at shape limits e names) n)

  pub lengths_differ : (es : List Term) (ns : List ℕ) (names : Columns) → (length es ≡ length ns → ⊥) → are_right_arguments shape limits (term_list es) names ns ≡ false
  lengths_differ [] [] names apart = absurd (apart refl)
  lengths_differ [] (n ∷ ns) names apart = refl
  lengths_differ (e ∷ es) [] names apart = refl
  lengths_differ (e ∷ es) (n ∷ ns) names apart = ap (λ b. has_columns (columns_at shape limits e names) n && b) (lengths_differ es ns names (λ same. apart (ap suc same))) ∙ and_none (has_columns (columns_at shape limits e names) n)
    where
      and_none : (x : Bool) → (x && false) ≡ false
      and_none true = refl
      and_none false = refl
