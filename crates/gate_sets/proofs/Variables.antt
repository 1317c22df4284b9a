-- The tuples of a list whose variables are true, taken one after the other.
use Rattle.std.proofs.Common.{◌≡◌, ◌↔◌, ◌⊎◌, ℕ, zero, suc, ◌+◌, ◌<◌, Bool, true, false, ◌&&◌, ◌||◌, List, [], ◌∷◌, ◌++◌, length, take, get_or, slice_get, Some, refl, sym, ap, ◌∙◌, arith, inl, inr}
use Rattle.core_tuples.specs.Sets.{is_same}
use Rattle.core_tuples.proofs.OrderedLemmas.{same_exact, same_itself, or_false}
use Rattle.gate_sets.specs.Sets.{InVariables}
use Rattle.gate_sets.proofs.Truth.{and_means, or_means}

-- whether the tuple is one of these, with a variable that is true
abbrev pub any_variable : (ℕ → Bool) → ℕ → List (List ℕ) → List ℕ → Bool
any_variable x first [] t = false
any_variable x first (s ∷ ts) t = (is_same s t && x first) || any_variable x (first + 1) ts t

or_joined : (a b c : Bool) → (a || b) || c ≡ a || (b || c)
or_joined true b c = refl
or_joined false b c = refl

-- one more tuple
pub any_next : (x : ℕ → Bool) (first : ℕ) (ts : List (List ℕ)) (i : ℕ) (s : List ℕ) (t : List ℕ) → i < length ts → s ≡ get_or ts i s → any_variable x first (take (i + 1) ts) t ≡ any_variable x first (take i ts) t || (is_same s t && x (first + i))
any_next x first [] i s t lt is = absurd (omega arith)
any_next x first (u ∷ ts) zero s t lt is =
    or_false (is_same u t && x first) ∙ ap (λ (v : List ℕ). is_same v t && x first) (sym is) ∙ ap (λ (k : ℕ). is_same s t && x k) (sym (let same : first + 0 ≡ first = omega arith in same))
any_next x first (u ∷ ts) (suc i) s t lt is =
    ap (λ (k : ℕ). any_variable x first (take k (u ∷ ts)) t) (let same : suc i + 1 ≡ suc (i + 1) = omega arith in same)
    ∙ ap (λ (b : Bool). (is_same u t && x first) || b) (any_next x (first + 1) ts i s t (omega arith) is)
    ∙ sym (or_joined (is_same u t && x first) (any_variable x (first + 1) (take i ts) t) (is_same s t && x (first + 1 + i)))
    ∙ ap (λ (k : ℕ). any_variable x first (take (suc i) (u ∷ ts)) t || (is_same s t && x k)) (let same : first + 1 + i ≡ first + suc i = omega arith in same)

pub any_means : (x : ℕ → Bool) (first : ℕ) (ts : List (List ℕ)) (t : List ℕ) → (any_variable x first ts t ≡ true) ↔ InVariables x ts first t
any_means x first [] t = ((λ h. absurd (cc)), (λ q. absurd (cc)))
any_means x first (s ∷ ts) t =
    let either = or_means (is_same s t && x first) (any_variable x (first + 1) ts t) in
    let two = and_means (is_same s t) (x first) in
    let rest = any_means x (first + 1) ts t in (
      (λ h. elim (either.0 h) [
        | inl e ↦ (let p = two.0 e in (zero, ap Some (same_exact s t p.0), ap x (let same : first + 0 ≡ first = omega arith in same) ∙ p.1))
        | inr e ↦ (let r = rest.0 e in (suc r.0, r.1, ap x (let same : first + suc r.0 ≡ first + 1 + r.0 = omega arith in same) ∙ r.2))
      ]),
      (λ q. either.1 (from x first s ts t (λ r. rest.1 r) q.0 q.1 q.2)),
    )
  where
    from : (x : ℕ → Bool) (first : ℕ) (s : List ℕ) (ts : List (List ℕ)) (t : List ℕ) → (InVariables x ts (first + 1) t → any_variable x (first + 1) ts t ≡ true) → (j : ℕ) → slice_get (s ∷ ts) j ≡ Some t → x (first + j) ≡ true → ((is_same s t && x first) ≡ true) ⊎ (any_variable x (first + 1) ts t ≡ true)
    from x first s ts t rest zero at there = let same : s ≡ t = cc in inl ((and_means (is_same s t) (x first)).1 (ap (λ (u : List ℕ). is_same s u) (sym same) ∙ same_itself s, ap x (let same : first ≡ first + 0 = omega arith in same) ∙ there))
    from x first s ts t rest (suc j) at there = inr (rest (j, at, ap x (let same : first + 1 + j ≡ first + suc j = omega arith in same) ∙ there))

-- one more item of a list
pub take_more : {X : Type 0} (xs : List X) (i : ℕ) (x : X) → slice_get xs i ≡ Some x → take (i + 1) xs ≡ take i xs ++ x ∷ []
take_more [] i x at = absurd (cc)
take_more (y ∷ xs) zero x at = let same : y ≡ x = cc in ap (λ z. z ∷ []) same
take_more (y ∷ xs) (suc i) x at =
    ap (λ (k : ℕ). take k (y ∷ xs)) (let same : suc i + 1 ≡ suc (i + 1) = omega arith in same) ∙ ap (λ zs. y ∷ zs) (take_more xs i x at)
