-- The weight of trees over lists, by the items of the lists.
use Rattle.std.proofs.Common.{◌≡◌, ℕ, zero, suc, ◌+◌, ◌<◌, ◌≤◌, List, [], ◌∷◌, ◌++◌, map, take, length, get_or, max, refl, sym, ap, ◌∙◌, subst, arith, inl, inr, Some, slice_get, Vec, Box, Global}
use Rattle.std.proofs.lemmas.List.{take_more, map-append}
use Rattle.std.proofs.lemmas.Bool.{cases_lt}
use Rattle.std.proofs.lemmas.Option.{slice_get_within}
use Rattle.core_tree.specs.declared.model.Body.{Body}
use Rattle.std.proofs.Math.Nat.{le-max_left, le-max_right}
use Rattle.core_tree.specs.declared.operators.Quantity.{Quantity}
use Rattle.core_tree.specs.declared.tree.Variable.{Variable}
use Rattle.core_tree.specs.declared.tree.Formula.{Formula, Every, ForAll, Counted, Call as CallFormula}
use Rattle.core_tree.specs.declared.tree.Expr.{Expr, Comprehension, Sum, Call as CallExpr}
use Rattle.core_tree.specs.Trees.{Term, Claim, Binder, term_of, claim_of, variable_of, term_list, variable_list, claim_list}
use Rattle.core_tree.proofs.RowLemmas.{every_is, for_all_is, counted_is, call_claim_is, comprehension_is, sum_over_is, call_term_is}
use Rattle.eval_calls.specs.Weight.{both, weight_in, weight_of, weight_of_terms, weight_of_bounds, weight_of_each, IsWeighed, AreWeighed}
use Rattle.eval_calls.proofs.RoundLemmas.{max_to}

half : (a b c : ℕ) → max a (max b c) ≤ max b (max a c)
half a b c =
    let x = le-max_left a c in
    let y = le-max_right a c in
    let z = le-max_right b (max a c) in
    max_to a (max b c) (max b (max a c)) (omega arith) (max_to b c (max b (max a c)) (le-max_left b (max a c)) (omega arith))

max_swap : (a b c : ℕ) → max a (max b c) ≡ max b (max a c)
max_swap a b c = let p = half a b c in let q = half b a c in omega arith

all_taken : {X : Type 0} (xs : List X) (i : ℕ) → length xs ≤ i → take i xs ≡ xs
all_taken [] zero h = refl
all_taken [] (suc i) h = refl
all_taken (x ∷ xs) zero h = absurd (omega arith)
all_taken (x ∷ xs) (suc i) h = ap (λ ys. x ∷ ys) (all_taken xs i (omega arith))

module _ (calls : ℕ → ℕ) where
  terms_last : (es : List Term) (e : Term) → weight_of_terms calls (term_list (es ++ e ∷ [])) ≡ max (weight_in calls e) (weight_of_terms calls (term_list es))
  terms_last [] e = refl
  terms_last (x ∷ es) e = ap (max (weight_in calls x)) (terms_last es e) ∙ max_swap (weight_in calls x) (weight_in calls e) (weight_of_terms calls (term_list es))

  pub terms_more : (xs : List Expr) (i : ℕ) (d : Expr) → i < length xs → weight_of_terms calls (term_list (map term_of (take (i + 1) xs))) ≡ max (weight_in calls (term_of (get_or xs i d))) (weight_of_terms calls (term_list (map term_of (take i xs))))
  terms_more xs i d lt = ap (λ ys. weight_of_terms calls (term_list (map term_of ys))) (take_more xs i d lt) ∙ ap (λ ys. weight_of_terms calls (term_list ys)) (map-append term_of (take i xs) (get_or xs i d ∷ [])) ∙ terms_last (map term_of (take i xs)) (term_of (get_or xs i d))

  pub terms_all : (xs : List Expr) (i : ℕ) → length xs ≤ i → weight_of_terms calls (term_list (map term_of (take i xs))) ≡ weight_of_terms calls (term_list (map term_of xs))
  terms_all xs i le = ap (λ ys. weight_of_terms calls (term_list (map term_of ys))) (all_taken xs i le)

  bounds_last : (es : List Binder) (e : Binder) → weight_of_bounds calls (variable_list (es ++ e ∷ [])) ≡ max (weight_in calls e.bound) (weight_of_bounds calls (variable_list es))
  bounds_last [] e = refl
  bounds_last (x ∷ es) e = ap (max (weight_in calls x.bound)) (bounds_last es e) ∙ max_swap (weight_in calls x.bound) (weight_in calls e.bound) (weight_of_bounds calls (variable_list es))

  pub bounds_more : (xs : List Variable) (i : ℕ) (d : Variable) → i < length xs → weight_of_bounds calls (variable_list (map variable_of (take (i + 1) xs))) ≡ max (weight_in calls (term_of (get_or xs i d).bound)) (weight_of_bounds calls (variable_list (map variable_of (take i xs))))
  bounds_more xs i d lt = ap (λ ys. weight_of_bounds calls (variable_list (map variable_of ys))) (take_more xs i d lt) ∙ ap (λ ys. weight_of_bounds calls (variable_list ys)) (map-append variable_of (take i xs) (get_or xs i d ∷ [])) ∙ bounds_last (map variable_of (take i xs)) (variable_of (get_or xs i d))

  pub bounds_all : (xs : List Variable) (i : ℕ) → length xs ≤ i → weight_of_bounds calls (variable_list (map variable_of (take i xs))) ≡ weight_of_bounds calls (variable_list (map variable_of xs))
  bounds_all xs i le = ap (λ ys. weight_of_bounds calls (variable_list (map variable_of ys))) (all_taken xs i le)

  claims_last : (es : List Claim) (e : Claim) → weight_of_each calls (claim_list (es ++ e ∷ [])) ≡ max (weight_of calls e) (weight_of_each calls (claim_list es))
  claims_last [] e = refl
  claims_last (x ∷ es) e = ap (max (weight_of calls x)) (claims_last es e) ∙ max_swap (weight_of calls x) (weight_of calls e) (weight_of_each calls (claim_list es))

  pub claims_more : (xs : List Formula) (i : ℕ) (d : Formula) → i < length xs → weight_of_each calls (claim_list (map claim_of (take (i + 1) xs))) ≡ max (weight_of calls (claim_of (get_or xs i d))) (weight_of_each calls (claim_list (map claim_of (take i xs))))
  claims_more xs i d lt = ap (λ ys. weight_of_each calls (claim_list (map claim_of ys))) (take_more xs i d lt) ∙ ap (λ ys. weight_of_each calls (claim_list ys)) (map-append claim_of (take i xs) (get_or xs i d ∷ [])) ∙ claims_last (map claim_of (take i xs)) (claim_of (get_or xs i d))

  pub claims_all : (xs : List Formula) (i : ℕ) → length xs ≤ i → weight_of_each calls (claim_list (map claim_of (take i xs))) ≡ weight_of_each calls (claim_list (map claim_of xs))
  claims_all xs i le = ap (λ ys. weight_of_each calls (claim_list (map claim_of ys))) (all_taken xs i le)

  module _ (r x y : ℕ) where
    pub every_weight : (v : Vec Formula Global) (fs : List Formula) → r ≡ weight_of_each calls (claim_list (map claim_of fs)) → fs ≡ v.items → r ≡ weight_of calls (claim_of (Every v))
    every_weight v fs e is = e ∙ ap (λ l. weight_of_each calls (claim_list (map claim_of l))) is ∙ ap (weight_of calls) (sym (every_is v))

    module _ (v : Vec Variable Global) (vs : List Variable) (ex : x ≡ weight_of_bounds calls (variable_list (map variable_of vs))) (is : vs ≡ v.items) (er : r ≡ max x y) where
      bounds_then : (z : ℕ) → y ≡ z → r ≡ max (weight_of_bounds calls (variable_list (map variable_of v.items))) z
      bounds_then z ey = er ∙ ap (λ n. max n y) (ex ∙ ap (λ l. weight_of_bounds calls (variable_list (map variable_of l))) is) ∙ ap (max (weight_of_bounds calls (variable_list (map variable_of v.items)))) ey

      module _ (b : Box Formula Global) (f : Formula) (ey : y ≡ weight_of calls (claim_of f)) (same : f ≡ b.value) where
        pub for_all_weight : r ≡ weight_of calls (claim_of (ForAll v b))
        for_all_weight = bounds_then (weight_of calls (claim_of b.value)) (ey ∙ ap (λ g. weight_of calls (claim_of g)) same) ∙ ap (weight_of calls) (sym (for_all_is v b))

        pub counted_weight : (q : Quantity) → r ≡ weight_of calls (claim_of (Counted q v b))
        counted_weight q = bounds_then (weight_of calls (claim_of b.value)) (ey ∙ ap (λ g. weight_of calls (claim_of g)) same) ∙ ap (weight_of calls) (sym (counted_is q v b))

        pub comprehension_weight : r ≡ weight_in calls (term_of (Comprehension v b))
        comprehension_weight = bounds_then (weight_of calls (claim_of b.value)) (ey ∙ ap (λ g. weight_of calls (claim_of g)) same) ∙ ap (weight_in calls) (sym (comprehension_is v b))

      pub sum_weight : (b : Box Expr Global) (e : Expr) → y ≡ weight_in calls (term_of e) → e ≡ b.value → r ≡ weight_in calls (term_of (Sum v b))
      sum_weight b e ey same = bounds_then (weight_in calls (term_of b.value)) (ey ∙ ap (λ g. weight_in calls (term_of g)) same) ∙ ap (weight_in calls) (sym (sum_over_is v b))

    module _ (body : ℕ) (v : Vec Expr Global) (es : List Expr) (er : r ≡ both x y) (ex : x ≡ calls body) (ey : y ≡ weight_of_terms calls (term_list (map term_of es))) (is : es ≡ v.items) where
      call_both : r ≡ both (calls body) (weight_of_terms calls (term_list (map term_of v.items)))
      call_both = er ∙ ap (λ n. both n y) ex ∙ ap (both (calls body)) (ey ∙ ap (λ l. weight_of_terms calls (term_list (map term_of l))) is)

      pub call_term_weight : r ≡ weight_in calls (term_of (CallExpr body v))
      call_term_weight = call_both ∙ ap (weight_in calls) (sym (call_term_is body v))

      pub call_claim_weight : r ≡ weight_of calls (claim_of (CallFormula body v))
      call_claim_weight = call_both ∙ ap (weight_of calls) (sym (call_claim_is body v))

-- the bodies before a place have their weights
pub front_more : (list : List Body) (weights : List ℕ) (n : ℕ) → ((k : ℕ) (b : Body) → k < n → slice_get list k ≡ Some b → IsWeighed list weights k b) → ((b : Body) → slice_get list n ≡ Some b → IsWeighed list weights n b) → (k : ℕ) (b : Body) → k < n + 1 → slice_get list k ≡ Some b → IsWeighed list weights k b
front_more list weights n before here k b lt at = elim (cases_lt k n) [
  | inl sooner ↦ before k b sooner at
  | inr last ↦ let e : n ≡ k = omega arith in subst (λ j. IsWeighed list weights j b) e (here b (subst (λ j. slice_get list j ≡ Some b) (sym e) at))
]

pub front_all : (list : List Body) (weights : List ℕ) (n : ℕ) → length list ≤ n → ((k : ℕ) (b : Body) → k < n → slice_get list k ≡ Some b → IsWeighed list weights k b) → AreWeighed list weights
front_all list weights n high before k b at = before k b (let within = slice_get_within list k b at in omega arith) at
