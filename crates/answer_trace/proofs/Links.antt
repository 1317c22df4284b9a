-- Links along the fields of owners.
use Rattle.std.proofs.Common.{◌≡◌, ◌⊎◌, inl, inr, ℕ, zero, suc, ◌+◌, ◌-◌, ◌<◌, ◌≤◌, ◌==◌, eqb, ◌≢◌, Bool, true, false, List, [], ◌∷◌, ◌++◌, length, slice_index, slice_set, replicate, refl, sym, ap, ◌∙◌, subst, arith}
use Rattle.std.proofs.lemmas.List.{get_or_append_left, get_or-append_right, get_or-replicate, get_or_past, length-replicate, length-append, length-set, get_or-set_same, get_or-set_other}
use Rattle.std.proofs.lemmas.Bool.{eq-eqb, ne_eqb, cases_lt}
use Rattle.std.proofs.lemmas.Bool.Decides.{eqb_tells}
use Rattle.answer_trace.specs.Owners.{put_where, owned_in, walk, AreLinked}

-- links that were there stay
walk_kept : (m : ℕ) (next : List ℕ) (x n p : ℕ) → ((k : ℕ) → slice_index next k ≤ length next) → p ≤ length next → walk m (next ++ x ∷ []) n p ≡ walk m next n p
walk_kept m next x zero p inside le = refl
walk_kept m next x (suc n) zero inside le = refl
walk_kept m next x (suc n) (suc k) inside le =
    let lt : k < length next = omega arith in
    ap (λ t. (m - suc k) ∷ t) (ap (walk m (next ++ x ∷ []) n) (get_or_append_left next (x ∷ []) 0 k lt) ∙ walk_kept m next x n (slice_index next k) inside (inside k))

last_inside : (j x i : ℕ) → x ≤ i → slice_index (x ∷ []) j ≤ suc i
last_inside zero x i le = omega arith
last_inside (suc j) x i le = omega arith

-- a new link keeps the bound
inside_more : (next : List ℕ) (x i k : ℕ) → ((j : ℕ) → slice_index next j ≤ i) → x ≤ i → (k < length next) ⊎ (length next ≤ k) → slice_index (next ++ x ∷ []) k ≤ suc i
inside_more next x i k inside le (inl lt) =
    let e = get_or_append_left next (x ∷ []) 0 k lt in
    let old = inside k in
    omega (arith, e, old)
inside_more next x i k inside le (inr far) =
    subst (λ (y : ℕ). y ≤ suc i) (sym (get_or-append_right next (x ∷ []) (length next) k 0 refl far)) (last_inside (k - length next) x i le)

firsts_more : (heads : List ℕ) (owner i s : ℕ) → ((r : ℕ) → slice_index heads r ≤ i) → owner < length heads → ((eqb s owner ≡ true) × (s ≡ owner)) ⊎ ((eqb s owner ≡ false) × (s ≢ owner)) → slice_index (slice_set heads owner (suc i)) s ≤ suc i
firsts_more heads owner i s firsts lt (inl (t, e)) =
    let same = get_or-set_same heads owner (suc i) 0 lt in
    subst (λ (r : ℕ). slice_index (slice_set heads owner (suc i)) r ≤ suc i) (sym e) (omega (arith, same))
firsts_more heads owner i s firsts lt (inr (t, ne)) =
    let e = get_or-set_other heads owner s (suc i) 0 ne in
    let old = firsts s in
    omega (arith, e, old)

module _ (own : ℕ → ℕ) (sigs m : ℕ) (heads next : List ℕ) (i owner : ℕ) (linked : AreLinked own sigs m heads next i) (lt : i < m) (is : owner ≡ own (m - suc i)) (below : owner ≤ sigs) where
  place_lt : owner < length heads
  place_lt = let e = linked.owners in omega (arith, e, below)

  inside_length : (k : ℕ) → slice_index next k ≤ length next
  inside_length k = let e = linked.fields in let old = linked.inside k in omega (arith, e, old)

  -- the fields of an owner before, from the next number on
  old_walk : (s n : ℕ) → s ≤ sigs → i ≤ n → walk m (next ++ slice_index heads owner ∷ []) n (slice_index heads s) ≡ owned_in own s (m - i) i
  old_walk s n le far =
      let e = linked.fields in
      let old = linked.firsts s in
      walk_kept m next (slice_index heads owner) n (slice_index heads s) inside_length (omega (arith, e, old)) ∙ linked.walks s n le far

  next_number : suc (m - suc i) ≡ m - i
  next_number = omega (arith, lt)

  is_owner : (s : ℕ) → s ≡ owner → (own (m - suc i) == s) ≡ true
  is_owner s e = eq-eqb (own (m - suc i)) s (sym is ∙ sym e)

  is_other : (s : ℕ) → s ≢ owner → (own (m - suc i) == s) ≡ false
  is_other s ne = ne_eqb (own (m - suc i)) s (λ e. ne (sym (is ∙ e)))

  owned_more : (s : ℕ) → s ≡ owner → owned_in own s (m - suc i) (suc i) ≡ (m - suc i) ∷ owned_in own owner (m - i) i
  owned_more s e =
      ap (λ (b : Bool). put_where b (m - suc i) (owned_in own s (suc (m - suc i)) i)) (is_owner s e) ∙ ap (λ (k : ℕ). (m - suc i) ∷ owned_in own s k i) next_number ∙ ap (λ (r : ℕ). (m - suc i) ∷ owned_in own r (m - i) i) e

  owned_same : (s : ℕ) → s ≢ owner → owned_in own s (m - suc i) (suc i) ≡ owned_in own s (m - i) i
  owned_same s ne = ap (λ (b : Bool). put_where b (m - suc i) (owned_in own s (suc (m - suc i)) i)) (is_other s ne) ∙ ap (λ (k : ℕ). owned_in own s k i) next_number

  new_first : (s : ℕ) → s ≡ owner → slice_index (slice_set heads owner (suc i)) s ≡ suc i
  new_first s e = ap (slice_index (slice_set heads owner (suc i))) e ∙ get_or-set_same heads owner (suc i) 0 place_lt

  new_next : slice_index (next ++ slice_index heads owner ∷ []) i ≡ slice_index heads owner
  new_next = get_or-append_right next (slice_index heads owner ∷ []) i i 0 linked.fields (omega arith) ∙ ap (slice_index (slice_index heads owner ∷ [])) (let e : i - i ≡ 0 = omega arith in e)

  new_walk : (s n : ℕ) → s ≤ sigs → suc i ≤ n → ((eqb s owner ≡ true) × (s ≡ owner)) ⊎ ((eqb s owner ≡ false) × (s ≢ owner)) → walk m (next ++ slice_index heads owner ∷ []) n (slice_index (slice_set heads owner (suc i)) s) ≡ owned_in own s (m - suc i) (suc i)
  new_walk s zero le far which = absurd (omega (arith, far))
  new_walk s (suc n) le far (inl (t, e)) =
      ap (walk m (next ++ slice_index heads owner ∷ []) (suc n)) (new_first s e)
      ∙ ap (λ (t : ℕ). (m - suc i) ∷ walk m (next ++ slice_index heads owner ∷ []) n t) new_next
      ∙ ap (λ (t : List ℕ). (m - suc i) ∷ t) (old_walk owner n below (omega (arith, far)))
      ∙ sym (owned_more s e)
  new_walk s (suc n) le far (inr (t, ne)) =
      ap (walk m (next ++ slice_index heads owner ∷ []) (suc n)) (get_or-set_other heads owner s (suc i) 0 ne)
      ∙ old_walk s (suc n) le (omega (arith, far))
      ∙ sym (owned_same s ne)

  link_suc : AreLinked own sigs m (slice_set heads owner (suc i)) (next ++ slice_index heads owner ∷ []) (suc i)
  link_suc = record {
    owners = length-set heads owner (suc i) ∙ linked.owners;
    fields = let e = length-append next (slice_index heads owner ∷ []) in let f = linked.fields in omega (arith, e, f);
    inside = λ k. inside_more next (slice_index heads owner) i k linked.inside (linked.firsts owner) (cases_lt k (length next));
    firsts = λ s. firsts_more heads owner i s linked.firsts place_lt (eqb_tells s owner);
    walks = λ s n le far. new_walk s n le far (eqb_tells s owner);
  }

  -- a field is put in front of those of its owner
  pub link_step : AreLinked own sigs m (slice_set heads owner (i + 1)) (next ++ slice_index heads owner ∷ []) (i + 1)
  link_step = subst (λ (j : ℕ). AreLinked own sigs m (slice_set heads owner j) (next ++ slice_index heads owner ∷ []) j) (let e : suc i ≡ i + 1 = omega arith in e) link_suc

zeros : (n s : ℕ) → (s < n) ⊎ (n ≤ s) → slice_index (replicate n 0) s ≡ 0
zeros n s (inl lt) = get_or-replicate n s 0 0 lt
zeros n s (inr far) = get_or_past (replicate n 0) s 0 (let e = length-replicate {A = ℕ} n 0 in omega (arith, e, far))

walk_none : (m n : ℕ) (next : List ℕ) → walk m next n 0 ≡ []
walk_none m zero next = refl
walk_none m (suc n) next = refl

-- none is linked at first
pub link_none : (own : ℕ → ℕ) (sigs m : ℕ) → AreLinked own sigs m (replicate (sigs + 1) 0) [] 0
link_none own sigs m = record {
  owners = length-replicate (sigs + 1) 0;
  fields = refl;
  inside = λ k. omega arith;
  firsts = λ s. let e = zeros (sigs + 1) s (cases_lt s (sigs + 1)) in omega (arith, e);
  walks = λ s n le far. ap (walk m [] n) (zeros (sigs + 1) s (cases_lt s (sigs + 1))) ∙ walk_none m n [];
}

-- what a loop begins with, and a step of it
pub link_start : (own : ℕ → ℕ) (sigs m : ℕ) (heads next : List ℕ) → heads ≡ replicate (sigs + 1) 0 → next ≡ [] → AreLinked own sigs m heads next 0
link_start own sigs m heads next e f =
    subst (λ (hs : List ℕ). AreLinked own sigs m hs next 0) (sym e) (subst (λ (ns : List ℕ). AreLinked own sigs m (replicate (sigs + 1) 0) ns 0) (sym f) (link_none own sigs m))

pub link_next : (own : ℕ → ℕ) (sigs m : ℕ) (heads next hs ns : List ℕ) (i owner k : ℕ) → AreLinked own sigs m heads next i → i < m → k ≡ m - suc i → owner ≡ own k → owner ≤ sigs → hs ≡ slice_set heads owner (i + 1) → ns ≡ next ++ slice_index heads owner ∷ [] → AreLinked own sigs m hs ns (i + 1)
link_next own sigs m heads next hs ns i owner k linked lt at is below e f =
    subst (λ (xs : List ℕ). AreLinked own sigs m xs ns (i + 1)) (sym e)
    (subst (λ (ys : List ℕ). AreLinked own sigs m (slice_set heads owner (i + 1)) ys (i + 1)) (sym f) (link_step own sigs m heads next i owner linked lt (is ∙ ap own at) below))
