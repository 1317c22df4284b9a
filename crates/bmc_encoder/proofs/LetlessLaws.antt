-- Lists without `let`.
use Rattle.std.proofs.Common.{◌≡◌, ◌≤◌, ◌+◌, ℕ, zero, suc, List, [], ◌∷◌, ◌++◌, map, take, length, slice_get, Some, refl, sym, ap, ◌∙◌, subst, arith, Vec, Box, Global}
use Rattle.std.proofs.lemmas.List.{take_more, map-append}
use Rattle.std.proofs.lemmas.Option.{slice_get_within, get_or_from_slice_get}
use Rattle.core_tree.specs.declared.operators.Quantity.{Quantity}
use Rattle.core_tree.specs.declared.tree.Variable.{Variable}
use Rattle.core_tree.specs.declared.tree.Formula.{Formula, Every, ForAll, Counted}
use Rattle.core_tree.specs.declared.tree.Expr.{Expr, Comprehension, Sum}
use Rattle.core_tree.specs.Trees.{Term, Claim, Binder, term_of, claim_of, variable_of, variable_list, claim_list}
use Rattle.core_tree.proofs.RowLemmas.{every_is, for_all_is, counted_is, comprehension_is, sum_over_is}
use Rattle.bmc_encoder.specs.Letless.{IsLetlessTerm, AreLetlessBounds, IsLetless, AreLetless}

all_taken : {X : Type 0} (xs : List X) (i : ℕ) → length xs ≤ i → take i xs ≡ xs
all_taken [] zero h = refl
all_taken [] (suc i) h = refl
all_taken (x ∷ xs) zero h = absurd (omega arith)
all_taken (x ∷ xs) (suc i) h = ap (λ ys. x ∷ ys) (all_taken xs i (omega arith))

one_more : {X : Type 0} (xs : List X) (i : ℕ) (x : X) → slice_get xs i ≡ Some x → take (i + 1) xs ≡ take i xs ++ x ∷ []
one_more xs i x at = take_more xs i x (slice_get_within xs i x at) ∙ ap (λ y. take i xs ++ y ∷ []) (get_or_from_slice_get xs i x x at)

bounds_last : (es : List Binder) (e : Binder) → AreLetlessBounds (variable_list es) → IsLetlessTerm e.bound → AreLetlessBounds (variable_list (es ++ e ∷ []))
bounds_last [] e all one = (one, tt)
bounds_last (x ∷ es) e all one = (all.0, bounds_last es e all.1 one)

pub bounds_more : (xs : List Variable) (i : ℕ) (x : Variable) → slice_get xs i ≡ Some x → AreLetlessBounds (variable_list (map variable_of (take i xs))) → IsLetlessTerm (term_of x.bound) → AreLetlessBounds (variable_list (map variable_of (take (i + 1) xs)))
bounds_more xs i x at all one =
    let more : take (i + 1) xs ≡ take i xs ++ x ∷ [] = one_more xs i x at in
    subst (λ (bs : List Binder). AreLetlessBounds (variable_list bs)) (sym (ap (λ (ys : List Variable). map variable_of ys) more ∙ map-append variable_of (take i xs) (x ∷ []))) (bounds_last (map variable_of (take i xs)) (variable_of x) all one)

pub bounds_all : (xs : List Variable) (i : ℕ) → length xs ≤ i → AreLetlessBounds (variable_list (map variable_of (take i xs))) → AreLetlessBounds (variable_list (map variable_of xs))
bounds_all xs i le all = subst (λ (ys : List Variable). AreLetlessBounds (variable_list (map variable_of ys))) (all_taken xs i le) all

claims_last : (fs : List Claim) (f : Claim) → AreLetless (claim_list fs) → IsLetless f → AreLetless (claim_list (fs ++ f ∷ []))
claims_last [] f all one = (one, tt)
claims_last (x ∷ fs) f all one = (all.0, claims_last fs f all.1 one)

pub claims_more : (xs : List Formula) (i : ℕ) (x : Formula) → slice_get xs i ≡ Some x → AreLetless (claim_list (map claim_of (take i xs))) → IsLetless (claim_of x) → AreLetless (claim_list (map claim_of (take (i + 1) xs)))
claims_more xs i x at all one =
    let more : take (i + 1) xs ≡ take i xs ++ x ∷ [] = one_more xs i x at in
    subst (λ (cs : List Claim). AreLetless (claim_list cs)) (sym (ap (λ (ys : List Formula). map claim_of ys) more ∙ map-append claim_of (take i xs) (x ∷ []))) (claims_last (map claim_of (take i xs)) (claim_of x) all one)

pub claims_all : (xs : List Formula) (i : ℕ) → length xs ≤ i → AreLetless (claim_list (map claim_of (take i xs))) → AreLetless (claim_list (map claim_of xs))
claims_all xs i le all = subst (λ (ys : List Formula). AreLetless (claim_list (map claim_of ys))) (all_taken xs i le) all

-- forms that have lists as parts
pub every_letless : (v : Vec Formula Global) (fs : List Formula) → AreLetless (claim_list (map claim_of fs)) → fs ≡ v.items → IsLetless (claim_of (Every v))
every_letless v fs all is = subst (λ (f : Claim). IsLetless f) (sym (every_is v)) (subst (λ (gs : List Formula). AreLetless (claim_list (map claim_of gs))) is all)

module _ (v : Vec Variable Global) (vs : List Variable) (all : AreLetlessBounds (variable_list (map variable_of vs))) (is : vs ≡ v.items) where
  bounds_are : AreLetlessBounds (variable_list (map variable_of v.items))
  bounds_are = subst (λ (ys : List Variable). AreLetlessBounds (variable_list (map variable_of ys))) is all

  module _ (b : Box Formula Global) (f : Formula) (one : IsLetless (claim_of f)) (same : f ≡ b.value) where
    body_is : IsLetless (claim_of b.value)
    body_is = subst (λ (g : Formula). IsLetless (claim_of g)) same one

    pub for_all_letless : IsLetless (claim_of (ForAll v b))
    for_all_letless = subst (λ (c : Claim). IsLetless c) (sym (for_all_is v b)) (bounds_are, body_is)

    pub counted_letless : (q : Quantity) → IsLetless (claim_of (Counted q v b))
    counted_letless q = subst (λ (c : Claim). IsLetless c) (sym (counted_is q v b)) (bounds_are, body_is)

    pub comprehension_letless : IsLetlessTerm (term_of (Comprehension v b))
    comprehension_letless = subst (λ (t : Term). IsLetlessTerm t) (sym (comprehension_is v b)) (bounds_are, body_is)

  pub sum_letless : (b : Box Expr Global) (e : Expr) → IsLetlessTerm (term_of e) → e ≡ b.value → IsLetlessTerm (term_of (Sum v b))
  sum_letless b e one same = subst (λ (t : Term). IsLetlessTerm t) (sym (sum_over_is v b)) (bounds_are, subst (λ (k : Expr). IsLetlessTerm (term_of k)) same one)
