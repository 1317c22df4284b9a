-- One parameter more, from the last to the first.
use Rattle.std.proofs.Common.{◌≡◌, ℕ, zero, suc, ◌+◌, ◌-◌, ◌<◌, List, [], ◌∷◌, ◌++◌, take, drop, reverse, length, get_or, Option, Some, None, refl, ap, sym, ◌∙◌, append_assoc, arith, add-one}
use Rattle.std.proofs.lemmas.List.{append-nil, drop_all, take_all, take_more, drop_more, reverse-append}
use Rattle.core_tree.specs.declared.model.Parameter.{Parameter}
use Rattle.core_tree.specs.Trees.{Claim, Binder}
use Rattle.form_skolem.specs.Claims.{binder, some_of, field_claim, call, claim_from, run_claim}
use Rattle.form_skolem.specs.Steps.{binders, IsBack}

latest_first : (place : ℕ) (fs : List (Option ℕ)) (d : Option ℕ) → place < length fs → reverse (take (place + 1) fs) ≡ get_or fs place d ∷ reverse (take place fs)
latest_first place fs d low = ap reverse (take_more fs place d low) ∙ reverse-append (take place fs) (get_or fs place d ∷ [])

first_of : (ps : List Parameter) (place : ℕ) → place < length ps → (q : Parameter) × (drop place ps ≡ q ∷ drop (suc place) ps)
first_of [] place low = absurd (omega arith)
first_of (p ∷ ps) zero low = (p, refl)
first_of (p ∷ ps) (suc n) low = let rest = first_of ps n (omega arith) in (rest.0, rest.1)

-- nothing is behind the last parameter
pub back_start : (body : ℕ) (ps : List Parameter) (fs : List (Option ℕ)) → length ps ≡ length fs → IsBack body ps fs (length fs) (length fs) (call body fs)
back_start body ps fs same = record {
  leads = λ picked.
      let none : drop (length fs) ps ≡ [] = drop_all (length fs) ps (omega arith) in
      let left : take (length fs - length fs) (drop (length fs) ps) ≡ [] = ap (take (length fs - length fs)) none ∙ take_all (length fs - length fs) [] (omega arith) in
      ap (λ qs. claim_from body fs (length fs) qs (drop (length fs) fs) (reverse (take (length fs) fs)) picked) none
      ∙ ap (λ bs. some_of bs (call body fs)) (sym (append-nil picked) ∙ ap (λ qs. picked ++ binders (length fs) qs) (sym left));
}

module _ (body : ℕ) (ps : List Parameter) (fs : List (Option ℕ)) (place : ℕ) where
  -- what the parameters from a place on ask, by the first of them
  abbrev at : List Parameter → List (Option ℕ) → List (Option ℕ) → List Binder → Claim
  at qs gs earlier picked = claim_from body fs place qs gs earlier picked

  -- an atom parameter more
  atom_behind : (end : ℕ) (claim : Claim) (q : Parameter) → drop place ps ≡ q ∷ drop (place + 1) ps → place < length fs → place < end → get_or fs place None ≡ None → IsBack body ps fs (place + 1) end claim → IsBack body ps fs place end claim
  atom_behind end claim q parameters lower before here next = record {
    leads = λ picked.
        let fields : drop place fs ≡ None ∷ drop (place + 1) fs = drop_more fs place None lower ∙ ap (λ f. f ∷ drop (place + 1) fs) here in
        let earlier : reverse (take (place + 1) fs) ≡ None ∷ reverse (take place fs) = latest_first place fs None lower ∙ ap (λ f. f ∷ reverse (take place fs)) here in
        let count : end - place ≡ suc (end - (place + 1)) = omega arith in
        let taken : take (end - place) (drop place ps) ≡ q ∷ take (end - (place + 1)) (drop (place + 1) ps) = ap (λ n. take n (drop place ps)) count ∙ ap (take (suc (end - (place + 1)))) parameters in
        ap (λ qs. at qs (drop place fs) (reverse (take place fs)) picked) parameters
        ∙ ap (λ gs. at (q ∷ drop (place + 1) ps) gs (reverse (take place fs)) picked) fields
        ∙ ap (λ es. claim_from body fs (suc place) (drop (place + 1) ps) (drop (place + 1) fs) es (picked ++ binder place q ∷ [])) (sym earlier)
        ∙ ap (λ k. claim_from body fs k (drop (place + 1) ps) (drop (place + 1) fs) (reverse (take (place + 1) fs)) (picked ++ binder place q ∷ [])) (sym (add-one place))
        ∙ next.leads (picked ++ binder place q ∷ [])
        ∙ ap (λ bs. some_of bs claim) (append_assoc picked (binder place q ∷ []) (binders (place + 1) (take (end - (place + 1)) (drop (place + 1) ps)))
        ∙ ap (λ k. picked ++ binder place q ∷ binders k (take (end - (place + 1)) (drop (place + 1) ps))) (add-one place)
        ∙ ap (λ qs. picked ++ binders place qs) (sym taken));
  }

  pub back_atom : (end : ℕ) (claim : Claim) → place < length ps → place < length fs → place < end → get_or fs place None ≡ None → IsBack body ps fs (place + 1) end claim → IsBack body ps fs place end claim
  back_atom end claim low lower before here next = let here_is = first_of ps place low in atom_behind end claim here_is.0 (here_is.1 ∙ ap (λ n. here_is.0 ∷ drop n ps) (sym (add-one place))) lower before here next

  -- a relation parameter more
  pub back_field : (end f : ℕ) (claim after made : Claim) (p : Parameter) → place < length ps → place < length fs → get_or fs place None ≡ Some f → p ≡ get_or ps place p → IsBack body ps fs (place + 1) end claim →
      after ≡ some_of (binders (place + 1) (take (end - (place + 1)) (drop (place + 1) ps))) claim → made ≡ field_claim place f p (reverse (take place fs)) after → IsBack body ps fs place place made
  back_field end f claim after made p low lower here read next is result = record {
    leads = λ picked.
        let parameters : drop place ps ≡ p ∷ drop (place + 1) ps = drop_more ps place p low ∙ ap (λ q. q ∷ drop (place + 1) ps) (sym read) in
        let fields : drop place fs ≡ Some f ∷ drop (place + 1) fs = drop_more fs place None lower ∙ ap (λ g. g ∷ drop (place + 1) fs) here in
        let earlier : reverse (take (place + 1) fs) ≡ Some f ∷ reverse (take place fs) = latest_first place fs None lower ∙ ap (λ g. g ∷ reverse (take place fs)) here in
        let behind : claim_from body fs (suc place) (drop (place + 1) ps) (drop (place + 1) fs) (Some f ∷ reverse (take place fs)) [] ≡ after =
        ap (λ es. claim_from body fs (suc place) (drop (place + 1) ps) (drop (place + 1) fs) es []) (sym earlier)
        ∙ ap (λ k. claim_from body fs k (drop (place + 1) ps) (drop (place + 1) fs) (reverse (take (place + 1) fs)) []) (sym (add-one place))
        ∙ next.leads [] ∙ sym is in
        let zero_left : place - place ≡ 0 = omega arith in
        let none : take (place - place) (drop place ps) ≡ [] = ap (λ n. take n (drop place ps)) zero_left in
        ap (λ qs. at qs (drop place fs) (reverse (take place fs)) picked) parameters
        ∙ ap (λ gs. at (p ∷ drop (place + 1) ps) gs (reverse (take place fs)) picked) fields
        ∙ ap (λ c. some_of picked (field_claim place f p (reverse (take place fs)) c)) behind
        ∙ ap (λ c. some_of picked c) (sym result)
        ∙ ap (λ bs. some_of bs made) (sym (append-nil picked) ∙ ap (λ qs. picked ++ binders place qs) (sym none));
  }

-- all parameters
pub back_all : (body : ℕ) (ps : List Parameter) (fs : List (Option ℕ)) (end : ℕ) (claim made : Claim) → IsBack body ps fs 0 end claim → made ≡ some_of (binders 0 (take end ps)) claim → made ≡ run_claim body ps fs
back_all body ps fs end claim made back is = let all : end - 0 ≡ end = omega arith in is ∙ ap (λ n. some_of (binders 0 (take n ps)) claim) (sym all) ∙ sym (back.leads [])
