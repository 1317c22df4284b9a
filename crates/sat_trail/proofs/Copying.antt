-- The copies of the watched literals stay right as watches move and clauses are added.
use Rattle.std.proofs.Common.{ℕ, ◌+◌, ◌*◌, ◌/◌, ◌<◌, ◌≤◌, ◌≡◌, ◌≢◌, ℤ, pos, List, [], ◌∷◌, ◌++◌, length, set, sym, ap, subst, ◌∙◌, ⊎_elim, arith, length-set, length-append}
use Rattle.std.proofs.lemmas.List.{get_or-set_same, get_or-set_other, get_or_append_left, get_or_at, append_assoc}
use Rattle.std.proofs.lemmas.Bool.{cases_eq, cases_lt}
use Rattle.sat_trail.specs.Literal.{IsLiteral}
use Rattle.sat_trail.specs.Assignment.{value_at}
use Rattle.sat_trail.specs.Watched.{IsArena, IsPair, IsCopied, watched, sibling}
use Rattle.sat_trail.proofs.Weaving.{IsMove, pair_from, watched-set_same, watched-set_other, sibling-cases, sibling_literal, at_in_clause}
use Rattle.sat_trail.proofs.Adding.{pair_less, pair_same}

-- the sibling stands beside its node
pub sibling_beside : (k n : ℕ) → k < 2 * n → (sibling k < 2 * n) × (sibling k / 2 ≡ k / 2)
sibling_beside k n l = ⊎_elim
    (λ (e : (k ≡ 2 * (k / 2)) × (sibling k ≡ 2 * (k / 2) + 1)). (omega (arith, e.0, e.1), omega (arith, e.0, e.1)))
    (λ (e : (k ≡ 2 * (k / 2) + 1) × (sibling k ≡ 2 * (k / 2))). (omega (arith, e.0, e.1), omega (arith, e.0, e.1)))
    (sibling-cases k)

-- the copy of the literal that a node of a pair watches
pub copy_read : (literals : List ℤ) (ends at : List ℕ) (copies : List ℤ) (k : ℕ) (l : ℤ) → IsCopied literals ends at copies → k < length at → IsPair literals ends at (k / 2) → l ≡ value_at copies k → l ≡ watched literals at k
copy_read literals ends at copies k l h i p e = e ∙ h.same k i p

-- the copy of the literal that the sibling watches
pub copy_of_sibling : (literals : List ℤ) (ends at : List ℕ) (copies : List ℤ) (variables k o : ℕ) (l : ℤ) → IsArena literals ends variables → IsCopied literals ends at copies → length at ≡ 2 * length ends → k < length at → IsPair literals ends at (k / 2) → o ≡ sibling k → l ≡ value_at copies o → (l ≡ watched literals at (sibling k)) × IsLiteral variables l
copy_of_sibling literals ends at copies variables k o l a h s i p is e =
    let beside = sibling_beside k (length ends) (omega (arith, s)) in
    let pair : IsPair literals ends at (sibling k / 2) = subst (IsPair literals ends at) (sym beside.1) p in
    let same : l ≡ watched literals at (sibling k) = copy_read literals ends at copies (sibling k) l h (omega (arith, beside.0, s)) pair (e ∙ ap (value_at copies) is) in
    (same, subst (IsLiteral variables) (sym same) (sibling_literal literals ends at variables k a (omega (arith, s)) p).1)

-- a watch that moves, with its copy
pub IsCopied-move : (literals : List ℤ) (ends at : List ℕ) (copies : List ℤ) (k p : ℕ) (l : ℤ) → IsCopied literals ends at copies → IsMove literals ends at k p → l ≡ value_at literals p → IsCopied literals ends (set at k p) (set copies k l)
IsCopied-move literals ends at copies k p l h m e = record {
  same_length = length-set copies k l ∙ (h.same_length ∙ sym (length-set at k p));
  same = λ n i pair. ⊎_elim
      (λ (here : n ≡ k). let P : ℕ → Type 0 = λ x. value_at (set copies k l) x ≡ watched literals (set at k p) x in
      subst P (sym here) (get_or-set_same copies k l (pos 0) (omega (arith, h.same_length, m.in_range)) ∙ (e ∙ sym (watched-set_same literals at k p m.in_range))))
      (λ (ne : n ≢ k). get_or-set_other copies k n l (pos 0) ne ∙ (h.same n (omega (arith, length-set at k p)) (pair_from literals ends at k p (n / 2) m pair) ∙ sym (watched-set_other literals at k p n ne)))
      (cases_eq n k);
}

-- the copies with those of the two watches of another clause
pub IsCopied-more : (literals ls : List ℤ) (ends at : List ℕ) (copies : List ℤ) (variables e x y : ℕ) (a b : ℤ) → IsArena literals ends variables → length at ≡ 2 * length ends → IsCopied literals ends at copies
    → (IsPair (literals ++ ls) (ends ++ e ∷ []) (at ++ x ∷ y ∷ []) (length ends) → (a ≡ watched (literals ++ ls) (at ++ x ∷ y ∷ []) (length at)) × (b ≡ watched (literals ++ ls) (at ++ x ∷ y ∷ []) (length at + 1)))
    → IsCopied (literals ++ ls) (ends ++ e ∷ []) (at ++ x ∷ y ∷ []) (copies ++ a ∷ b ∷ [])
IsCopied-more literals ls ends at copies variables e x y a b arena s h new =
    let lits = literals ++ ls in
    let es = ends ++ e ∷ [] in
    let at' = at ++ x ∷ y ∷ [] in
    let copies' = copies ++ a ∷ b ∷ [] in
    let size : length at' ≡ length at + 2 = length-append at (x ∷ y ∷ []) in
    record {
      same_length = length-append copies (a ∷ b ∷ []) ∙ (ap (λ (n : ℕ). n + 2) h.same_length ∙ sym size);
      same = λ k l p. ⊎_elim
          (λ (old : k < length at).
          let i : k / 2 < length ends = omega arith in
          let p' = pair_less literals ls ends at (x ∷ y ∷ []) variables e (k / 2) arena i s p in
          get_or_append_left copies (a ∷ b ∷ []) (pos 0) k (omega (arith, h.same_length)) ∙ (h.same k old p' ∙ sym (pair_same literals ls ends at (x ∷ y ∷ []) variables e (k / 2) k arena i old (at_in_clause literals ends at k p'))))
          (λ (late : length at ≤ k).
          let half : k / 2 ≡ length ends = omega (arith, size, l) in
          let its = new (subst (IsPair lits es at') half p) in
          ⊎_elim
          (λ (one : k ≡ length at). let P : ℕ → Type 0 = λ n. value_at copies' n ≡ watched lits at' n in
          subst P (sym one) (get_or_at copies a (b ∷ []) (pos 0) (length at) h.same_length ∙ its.0))
          (λ (ne : k ≢ length at).
          let two : k ≡ length at + 1 = omega (arith, l, size) in
          let P : ℕ → Type 0 = λ n. value_at copies' n ≡ watched lits at' n in
          subst P (sym two) (rw (← append_assoc copies (a ∷ []) (b ∷ [])) (get_or_at (copies ++ a ∷ []) b [] (pos 0) (length at + 1) (length-append copies (a ∷ []) ∙ ap (λ (n : ℕ). n + 1) h.same_length)) ∙ its.1))
          (cases_eq k (length at)))
          (cases_lt k (length at));
    }
