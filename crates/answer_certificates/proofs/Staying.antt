-- The formulas that stay where facts are left out.
use Rattle.std.proofs.Common.{◌≡◌, ℕ, zero, suc, ◌+◌, ◌-◌, ◌<◌, ◌≤◌, Bool, true, false, not, ◌||◌, cond, List, [], ◌∷◌, ◌++◌, map, length, drop, get_or, slice_get, replicate, Some, refl, sym, ap, ◌∙◌, subst, append_assoc, append-nil, drop-cons, add-one, nat_lt}
use Rattle.std.proofs.lemmas.List.{drop_all}
use Rattle.std.proofs.lemmas.Option.{slice_get-get_or}
use Rattle.core_tree.specs.declared.tree.Formula.{Formula}
use Rattle.core_tree.specs.Trees.{Claim, claim_of}
use Rattle.core_meaning.specs.declared.target.Target.{Target}
use Rattle.bound_uppers.specs.declared.table.Bounds.{Bounds}
use Rattle.answer_search.specs.Clauses.{SaysTargetWithin, RulesOut}
use Rattle.answer_search.specs.declared.found.Found.{Found}
use Rattle.answer_search.specs.declared.found.Found.TheVariants.{Trace, Refuted, Unknown}
use Rattle.answer_certificates.specs.Parts.{staying, stays, IsPartOf}
use Rattle.answer_certificates.specs.Core.{IsSearchedFor}

-- the formulas from a place on
next_formula : (formulas : List Formula) (place : ℕ) (f : Formula) → place < length formulas → get_or formulas place f ≡ f → drop place formulas ≡ f ∷ drop (place + 1) formulas
next_formula formulas place f room is =
    subst (λ x. drop place formulas ≡ x ∷ drop (place + 1) formulas) is (subst (λ n. drop place formulas ≡ get_or formulas place f ∷ drop n formulas) (sym (add-one place)) (drop-cons formulas place f room))

cond_split : (b : Bool) (x : Claim) (xs : List Claim) → cond b (x ∷ xs) xs ≡ cond b (x ∷ []) [] ++ xs
cond_split true x xs = refl
cond_split false x xs = refl

-- one more place
pub stay_more : (stay : ℕ → Bool) (formulas : List Formula) (old new : List Claim) (place : ℕ) (f : Formula) (b : Bool) → b ≡ stay place → place < length formulas → slice_get formulas place ≡ Some f
    → new ≡ old ++ cond b (claim_of f ∷ []) [] → old ++ staying stay place (drop place formulas) ≡ staying stay 0 formulas → new ++ staying stay (place + 1) (drop (place + 1) formulas) ≡ staying stay 0 formulas
stay_more stay formulas old new place f b flag room at made before =
    let is : new ≡ old ++ cond (stay place) (claim_of f ∷ []) [] = subst (λ (x : Bool). new ≡ old ++ cond x (claim_of f ∷ []) []) flag made in
    let both : Some f ≡ Some (get_or formulas place f) = sym at ∙ slice_get-get_or formulas place f room in
    let same : get_or formulas place f ≡ f = cc in
    let rest = staying stay (place + 1) (drop (place + 1) formulas) in
    let next : staying stay place (drop place formulas) ≡ cond (stay place) (claim_of f ∷ []) [] ++ rest =
    ap (staying stay place) (next_formula formulas place f room same) ∙ cond_split (stay place) (claim_of f) rest in
    ap (λ (xs : List Claim). xs ++ rest) is ∙ (append_assoc old (cond (stay place) (claim_of f ∷ []) []) rest ∙ (ap (λ (xs : List Claim). old ++ xs) (sym next) ∙ before))

-- all places
pub stay_all : (stay : ℕ → Bool) (formulas : List Formula) (claims : List Claim) (place : ℕ) → length formulas ≤ place → claims ++ staying stay place (drop place formulas) ≡ staying stay 0 formulas → claims ≡ staying stay 0 formulas
stay_all stay formulas claims place all is =
    sym (append-nil claims) ∙ (ap (λ (fs : List Formula). claims ++ staying stay place fs) (sym (drop_all place formulas all)) ∙ is)

-- where each stays
all_stay : (stay : ℕ → Bool) (formulas : List Formula) (place : ℕ) → ((k : ℕ) → stay k ≡ true) → map claim_of formulas ≡ staying stay place formulas
all_stay stay [] place h = refl
all_stay stay (f ∷ fs) place h =
    ap (λ (xs : List Claim). claim_of f ∷ xs) (all_stay stay fs (place + 1) h)
    ∙ sym (ap (λ (b : Bool). cond b (claim_of f ∷ staying stay (place + 1) fs) (staying stay (place + 1) fs)) (h place))

none_out : (n k : ℕ) → get_or (replicate n false) k false ≡ false
none_out zero k = refl
none_out (suc n) zero = refl
none_out (suc n) (suc k) = none_out n k

or_true : (a : Bool) → (a || true) ≡ true
or_true true = refl
or_true false = refl

pub whole_part : (target : Target) (first n : ℕ) (dropped : List Bool) → dropped ≡ replicate n false → IsPartOf target first dropped target
whole_part target first n dropped is = record {
  scopes = refl;
  formulas = all_stay (stays first dropped) target.formulas 0 (λ k.
      ap (λ (flags : List Bool). nat_lt k first || not (get_or flags (k - first) false)) is
      ∙ (ap (λ (b : Bool). nat_lt k first || not b) (none_out n (k - first)) ∙ or_true (nat_lt k first)));
}

-- ---- what the searches show

pub searched_for : (target part : Target) (first : ℕ) (limits : Bounds) (dropped : List Bool) (found : Found) → IsPartOf target first dropped part → SaysTargetWithin part limits found → RulesOut part limits found → IsSearchedFor target first limits dropped found
searched_for target part first limits dropped (Trace lasso) is says rules = λ table. let (other, meets, same) = says table in (part, is, other, meets)
searched_for target part first limits dropped (Refuted proof) is says rules = (record { part = part; is_part = is; says = says.0; ruled = rules }, says.1)
searched_for target part first limits dropped (Unknown proof) is says rules = (record { part = part; is_part = is; says = says.0 }, says.1)
