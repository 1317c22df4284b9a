-- Lists of trees that name only sigs and fields below some numbers.
use Rattle.std.proofs.Common.{◌≡◌, ◌≤◌, ◌+◌, ℕ, zero, suc, List, [], ◌∷◌, ◌++◌, map, take, length, slice_get, Some, refl, sym, ap, ◌∙◌, subst, arith, Vec, Box, Global}
use Rattle.std.proofs.lemmas.List.{take_more, map-append}
use Rattle.std.proofs.lemmas.Option.{slice_get_within, get_or_from_slice_get}
use Rattle.core_tree.specs.declared.operators.Quantity.{Quantity}
use Rattle.core_tree.specs.declared.tree.Variable.{Variable}
use Rattle.core_tree.specs.declared.tree.Formula.{Formula, Every, ForAll, Counted, Call as CallFormula}
use Rattle.core_tree.specs.declared.tree.Expr.{Expr, Comprehension, Sum}
use Rattle.core_tree.specs.Trees.{Term, Claim, Binder, term_of, claim_of, variable_of, term_list, variable_list, claim_list}
use Rattle.core_tree.proofs.RowLemmas.{every_is, for_all_is, counted_is, call_claim_is, comprehension_is, sum_over_is}
use Rattle.bound_laws.specs.Placed.{IsTermBelow, AreTermsBelow, AreVariablesBelow, IsClaimBelow, AreClaimsBelow}

all_taken : {X : Type 0} (xs : List X) (i : ℕ) → length xs ≤ i → take i xs ≡ xs
all_taken [] zero h = refl
all_taken [] (suc i) h = refl
all_taken (x ∷ xs) zero h = absurd (omega arith)
all_taken (x ∷ xs) (suc i) h = ap (λ ys. x ∷ ys) (all_taken xs i (omega arith))

one_more : {X : Type 0} (xs : List X) (i : ℕ) (x : X) → slice_get xs i ≡ Some x → take (i + 1) xs ≡ take i xs ++ x ∷ []
one_more xs i x at = take_more xs i x (slice_get_within xs i x at) ∙ ap (λ y. take i xs ++ y ∷ []) (get_or_from_slice_get xs i x x at)

module _ (sigs fields : ℕ) where
  bounds_last : (es : List Binder) (e : Binder) → AreVariablesBelow sigs fields (variable_list es) → IsTermBelow sigs fields e.bound → AreVariablesBelow sigs fields (variable_list (es ++ e ∷ []))
  bounds_last [] e all one = (one, tt)
  bounds_last (x ∷ es) e all one = (all.0, bounds_last es e all.1 one)

  pub bounds_more : (xs : List Variable) (i : ℕ) (x : Variable) → slice_get xs i ≡ Some x → AreVariablesBelow sigs fields (variable_list (map variable_of (take i xs))) → IsTermBelow sigs fields (term_of x.bound) → AreVariablesBelow sigs fields (variable_list (map variable_of (take (i + 1) xs)))
  bounds_more xs i x at all one =
      let more : take (i + 1) xs ≡ take i xs ++ x ∷ [] = one_more xs i x at in
      subst (λ (bs : List Binder). AreVariablesBelow sigs fields (variable_list bs)) (sym (ap (λ (ys : List Variable). map variable_of ys) more ∙ map-append variable_of (take i xs) (x ∷ []))) (bounds_last (map variable_of (take i xs)) (variable_of x) all one)

  pub bounds_all : (xs : List Variable) (i : ℕ) → length xs ≤ i → AreVariablesBelow sigs fields (variable_list (map variable_of (take i xs))) → AreVariablesBelow sigs fields (variable_list (map variable_of xs))
  bounds_all xs i le all = subst (λ (ys : List Variable). AreVariablesBelow sigs fields (variable_list (map variable_of ys))) (all_taken xs i le) all

  claims_last : (fs : List Claim) (f : Claim) → AreClaimsBelow sigs fields (claim_list fs) → IsClaimBelow sigs fields f → AreClaimsBelow sigs fields (claim_list (fs ++ f ∷ []))
  claims_last [] f all one = (one, tt)
  claims_last (x ∷ fs) f all one = (all.0, claims_last fs f all.1 one)

  pub claims_more : (xs : List Formula) (i : ℕ) (x : Formula) → slice_get xs i ≡ Some x → AreClaimsBelow sigs fields (claim_list (map claim_of (take i xs))) → IsClaimBelow sigs fields (claim_of x) → AreClaimsBelow sigs fields (claim_list (map claim_of (take (i + 1) xs)))
  claims_more xs i x at all one =
      let more : take (i + 1) xs ≡ take i xs ++ x ∷ [] = one_more xs i x at in
      subst (λ (cs : List Claim). AreClaimsBelow sigs fields (claim_list cs)) (sym (ap (λ (ys : List Formula). map claim_of ys) more ∙ map-append claim_of (take i xs) (x ∷ []))) (claims_last (map claim_of (take i xs)) (claim_of x) all one)

  pub claims_all : (xs : List Formula) (i : ℕ) → length xs ≤ i → AreClaimsBelow sigs fields (claim_list (map claim_of (take i xs))) → AreClaimsBelow sigs fields (claim_list (map claim_of xs))
  claims_all xs i le all = subst (λ (ys : List Formula). AreClaimsBelow sigs fields (claim_list (map claim_of ys))) (all_taken xs i le) all

  -- forms that have lists as parts
  pub every_below : (v : Vec Formula Global) (fs : List Formula) → AreClaimsBelow sigs fields (claim_list (map claim_of fs)) → fs ≡ v.items → IsClaimBelow sigs fields (claim_of (Every v))
  every_below v fs all is = subst (λ (f : Claim). IsClaimBelow sigs fields f) (sym (every_is v)) (subst (λ (gs : List Formula). AreClaimsBelow sigs fields (claim_list (map claim_of gs))) is all)

  module _ (v : Vec Variable Global) (vs : List Variable) (all : AreVariablesBelow sigs fields (variable_list (map variable_of vs))) (is : vs ≡ v.items) where
    bounds_are : AreVariablesBelow sigs fields (variable_list (map variable_of v.items))
    bounds_are = subst (λ (ys : List Variable). AreVariablesBelow sigs fields (variable_list (map variable_of ys))) is all

    module _ (b : Box Formula Global) (f : Formula) (one : IsClaimBelow sigs fields (claim_of f)) (same : f ≡ b.value) where
      body_is : IsClaimBelow sigs fields (claim_of b.value)
      body_is = subst (λ (g : Formula). IsClaimBelow sigs fields (claim_of g)) same one

      pub for_all_below : IsClaimBelow sigs fields (claim_of (ForAll v b))
      for_all_below = subst (λ (c : Claim). IsClaimBelow sigs fields c) (sym (for_all_is v b)) (bounds_are, body_is)

      pub counted_below : (q : Quantity) → IsClaimBelow sigs fields (claim_of (Counted q v b))
      counted_below q = subst (λ (c : Claim). IsClaimBelow sigs fields c) (sym (counted_is q v b)) (bounds_are, body_is)

      pub comprehension_below : IsTermBelow sigs fields (term_of (Comprehension v b))
      comprehension_below = subst (λ (t : Term). IsTermBelow sigs fields t) (sym (comprehension_is v b)) (bounds_are, body_is)

    pub sum_below : (b : Box Expr Global) (e : Expr) → IsTermBelow sigs fields (term_of e) → e ≡ b.value → IsTermBelow sigs fields (term_of (Sum v b))
    sum_below b e one same = subst (λ (t : Term). IsTermBelow sigs fields t) (sym (sum_over_is v b)) (bounds_are, subst (λ (k : Expr). IsTermBelow sigs fields (term_of k)) same one)

  terms_last : (es : List Term) (e : Term) → AreTermsBelow sigs fields (term_list es) → IsTermBelow sigs fields e → AreTermsBelow sigs fields (term_list (es ++ e ∷ []))
  terms_last [] e all one = (one, tt)
  terms_last (x ∷ es) e all one = (all.0, terms_last es e all.1 one)

  pub terms_more : (xs : List Expr) (i : ℕ) (x : Expr) → slice_get xs i ≡ Some x → AreTermsBelow sigs fields (term_list (map term_of (take i xs))) → IsTermBelow sigs fields (term_of x) → AreTermsBelow sigs fields (term_list (map term_of (take (i + 1) xs)))
  terms_more xs i x at all one =
      let more : take (i + 1) xs ≡ take i xs ++ x ∷ [] = one_more xs i x at in
      subst (λ (ts : List Term). AreTermsBelow sigs fields (term_list ts)) (sym (ap (λ (ys : List Expr). map term_of ys) more ∙ map-append term_of (take i xs) (x ∷ []))) (terms_last (map term_of (take i xs)) (term_of x) all one)

  pub terms_all : (xs : List Expr) (i : ℕ) → length xs ≤ i → AreTermsBelow sigs fields (term_list (map term_of (take i xs))) → AreTermsBelow sigs fields (term_list (map term_of xs))
  terms_all xs i le all = subst (λ (ys : List Expr). AreTermsBelow sigs fields (term_list (map term_of ys))) (all_taken xs i le) all

  pub call_below : (body : ℕ) (v : Vec Expr Global) (es : List Expr) → AreTermsBelow sigs fields (term_list (map term_of es)) → es ≡ v.items → IsClaimBelow sigs fields (claim_of (CallFormula body v))
  call_below body v es all is = subst (λ (f : Claim). IsClaimBelow sigs fields f) (sym (call_claim_is body v)) (subst (λ (ts : List Expr). AreTermsBelow sigs fields (term_list (map term_of ts))) is all)
