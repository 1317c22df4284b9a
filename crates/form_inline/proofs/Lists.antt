-- Trees over lists whose parts call nothing.
use Rattle.std.proofs.Common.{zero, suc, List, [], ◌∷◌, ◌++◌, map, All, subst, sym, arith, Vec, Box, Global}
use Rattle.std.proofs.lemmas.List.{map-append}
use Rattle.std.proofs.lemmas.List.Elements.{All-append}
use Rattle.core_tree.specs.declared.operators.Quantity.{Quantity}
use Rattle.core_tree.specs.declared.tree.Variable.{Variable}
use Rattle.core_tree.specs.declared.tree.Formula.{Formula, Every, ForAll, Counted}
use Rattle.core_tree.specs.declared.tree.Expr.{Expr, Comprehension, Sum}
use Rattle.core_tree.specs.Trees.{Claim, Binder, term_of, claim_of, variable_of, claim_list, variable_list}
use Rattle.core_tree.proofs.RowLemmas.{every_is, for_all_is, counted_is, comprehension_is, sum_over_is}
use Rattle.form_inline.specs.CallFree.{IsCallFree, IsCallFreeTerm, AreCallFree, AreCallFreeVariables, HasCallFreeBound}

pub claims_free : (fs : List Claim) → All IsCallFree fs → AreCallFree (claim_list fs)
claims_free [] all = tt
claims_free (f ∷ fs) all = (all zero f (omega arith), claims_free fs (λ k d lt. all (suc k) d (omega arith)))

pub variables_free : (vs : List Binder) → All HasCallFreeBound vs → AreCallFreeVariables (variable_list vs)
variables_free [] all = tt
variables_free (v ∷ vs) all = (all zero v (omega arith), variables_free vs (λ k d lt. all (suc k) d (omega arith)))

pub every_free : (v : Vec Formula Global) → All IsCallFree (map claim_of v.items) → IsCallFree (claim_of (Every v))
every_free v all = subst IsCallFree (sym (every_is v)) (claims_free (map claim_of v.items) all)

pub for_all_free : (v : Vec Variable Global) (b : Box Formula Global) → All HasCallFreeBound (map variable_of v.items) → IsCallFree (claim_of b.value) → IsCallFree (claim_of (ForAll v b))
for_all_free v b all h = subst IsCallFree (sym (for_all_is v b)) (variables_free (map variable_of v.items) all, h)

pub counted_free : (q : Quantity) (v : Vec Variable Global) (b : Box Formula Global) → All HasCallFreeBound (map variable_of v.items) → IsCallFree (claim_of b.value) → IsCallFree (claim_of (Counted q v b))
counted_free q v b all h = subst IsCallFree (sym (counted_is q v b)) (variables_free (map variable_of v.items) all, h)

pub comprehension_free : (v : Vec Variable Global) (b : Box Formula Global) → All HasCallFreeBound (map variable_of v.items) → IsCallFree (claim_of b.value) → IsCallFreeTerm (term_of (Comprehension v b))
comprehension_free v b all h = subst IsCallFreeTerm (sym (comprehension_is v b)) (variables_free (map variable_of v.items) all, h)

pub sum_free : (v : Vec Variable Global) (b : Box Expr Global) → All HasCallFreeBound (map variable_of v.items) → IsCallFreeTerm (term_of b.value) → IsCallFreeTerm (term_of (Sum v b))
sum_free v b all h = subst IsCallFreeTerm (sym (sum_over_is v b)) (variables_free (map variable_of v.items) all, h)

single_claim : (f : Claim) → IsCallFree f → All IsCallFree (f ∷ [])
single_claim f h zero d lt = h
single_claim f h (suc k) d lt = absurd (omega arith)

single_binder : (v : Binder) → HasCallFreeBound v → All HasCallFreeBound (v ∷ [])
single_binder v h zero d lt = h
single_binder v h (suc k) d lt = absurd (omega arith)

pub more_claims_free : (old : List Formula) (f : Formula) → All IsCallFree (map claim_of old) → IsCallFree (claim_of f) → All IsCallFree (map claim_of (old ++ f ∷ []))
more_claims_free old f all h = subst (All IsCallFree) (sym (map-append claim_of old (f ∷ []))) (All-append IsCallFree (map claim_of old) (claim_of f ∷ []) all (single_claim (claim_of f) h))

pub more_variables_free : (old : List Variable) (v : Variable) → All HasCallFreeBound (map variable_of old) → IsCallFreeTerm (term_of v.bound) → All HasCallFreeBound (map variable_of (old ++ v ∷ []))
more_variables_free old v all h = subst (All HasCallFreeBound) (sym (map-append variable_of old (v ∷ []))) (All-append HasCallFreeBound (map variable_of old) (variable_of v ∷ []) all (single_binder (variable_of v) h))
