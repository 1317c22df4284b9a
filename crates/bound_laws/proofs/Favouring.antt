-- That lists of pairs favour is decided: where one doesn't, a pair asks for the exchange.
use Rattle.std.proofs.Common.{◌≡◌, ◌↔◌, ◌⊎◌, inl, inr, ℕ, zero, suc, ◌<◌, List, [], ◌∷◌, length, take, All, Contains, Some, slice_get, get_or, refl, subst, arith}
use Rattle.std.proofs.lemmas.Option.{none-some, same_Some}
use Rattle.core_tuples.proofs.OrderLemmas.{cons_here, cons_later}
use Rattle.bound_naming.specs.declared.pairs.Pair.{Pair}
use Rattle.bound_naming.specs.Naming.{Favours}
use Rattle.bound_laws.proofs.Decided.{Decided}

all_cons : {X : Type 0} (P : X → Type 0) (x : X) (xs : List X) → P x → All P xs → (k : ℕ) (d : X) → k < length (x ∷ xs) → P (get_or (x ∷ xs) k d)
all_cons P x xs here rest zero d lt = here
all_cons P x xs here rest (suc k) d lt = rest k d (omega (arith, lt))

module _ (H : ℕ → Type 0) where
  -- all pairs before one agree, and it holds the later but not the earlier
  pub record Asks (pairs : List Pair) : Type 0 where
    pub place : ℕ
    pub pair : Pair
    pub there : slice_get pairs place ≡ Some pair
    pub agree : All (λ (q : Pair). H q.earlier ↔ H q.later) (take place pairs)
    pub later : H pair.later
    pub earlier : H pair.earlier → ⊥

  -- a list of lists of which one has a pair that asks
  abbrev pub SomeAsks : List (List Pair) → Type 0
  SomeAsks all = (pairs : List Pair) × Contains all pairs × Asks pairs

  agreeing_rest : (p : Pair) (rest : List Pair) (k : ℕ) → All (λ (q : Pair). H q.earlier ↔ H q.later) (take (suc k) (p ∷ rest)) → All (λ (q : Pair). H q.earlier ↔ H q.later) (take k rest)
  agreeing_rest p rest k agree j d lt = agree (suc j) d (omega (arith, lt))

  -- a list whose first pair has its earlier, or has neither, favours where the rest does
  favours_more : (p : Pair) (rest : List Pair) → (H p.later → H p.earlier) → Favours H rest → (k : ℕ) (q : Pair) → slice_get (p ∷ rest) k ≡ Some q → All (λ (o : Pair). H o.earlier ↔ H o.later) (take k (p ∷ rest)) → H q.later → H q.earlier
  favours_more p rest up favours zero q there agree later =
      let is : p ≡ q = same_Some p q there in
      subst (λ (o : Pair). H o.later → H o.earlier) is up later
  favours_more p rest up favours (suc k) q there agree later = favours k q there (agreeing_rest p rest k agree) later

  -- and one whose first pair has its earlier alone favours in any case
  favours_first : (p : Pair) (rest : List Pair) → H p.earlier → (H p.later → ⊥) → (k : ℕ) (q : Pair) → slice_get (p ∷ rest) k ≡ Some q → All (λ (o : Pair). H o.earlier ↔ H o.later) (take k (p ∷ rest)) → H q.later → H q.earlier
  favours_first p rest held off zero q there agree later =
      let is : p ≡ q = same_Some p q there in
      subst (λ (o : Pair). H o.earlier) is held
  favours_first p rest held off (suc k) q there agree later = absurd (off ((agree 0 p (omega arith)).0 held))

  asks_more : (p : Pair) (rest : List Pair) → H p.earlier ↔ H p.later → Asks rest → Asks (p ∷ rest)
  asks_more p rest both asks = record {
    place = suc asks.place;
    pair = asks.pair;
    there = asks.there;
    agree = all_cons (λ (q : Pair). H q.earlier ↔ H q.later) p (take asks.place rest) both asks.agree;
    later = asks.later;
    earlier = asks.earlier;
  }

  asks_first : (p : Pair) (rest : List Pair) → (H p.earlier → ⊥) → H p.later → Asks (p ∷ rest)
  asks_first p rest off held = record { place = 0; pair = p; there = refl; agree = λ j d lt. absurd (omega (arith, lt)); later = held; earlier = off }

  by_first : (p : Pair) (rest : List Pair) → Decided (H p.earlier) → Decided (H p.later) → Favours H rest ⊎ Asks rest → Favours H (p ∷ rest) ⊎ Asks (p ∷ rest)
  by_first p rest (inr off) (inl held) d = inr (asks_first p rest off held)
  by_first p rest (inl held) (inr off) d = inl (favours_first p rest held off)
  by_first p rest (inl one) (inl two) (inl favours) = inl (favours_more p rest (λ h. one) favours)
  by_first p rest (inl one) (inl two) (inr asks) = inr (asks_more p rest ((λ h. two), (λ h. one)) asks)
  by_first p rest (inr one) (inr two) (inl favours) = inl (favours_more p rest (λ h. absurd (two h)) favours)
  by_first p rest (inr one) (inr two) (inr asks) = inr (asks_more p rest ((λ h. absurd (one h)), (λ h. absurd (two h))) asks)

  module _ (decided : (v : ℕ) → Decided (H v)) where
    favours_or_asks : (pairs : List Pair) → Favours H pairs ⊎ Asks pairs
    favours_or_asks [] = inl (λ k p there agree later. absurd (none-some p there))
    favours_or_asks (p ∷ rest) = by_first p rest (decided p.earlier) (decided p.later) (favours_or_asks rest)

    pub all_or_asks : (all : List (List Pair)) → All (Favours H) all ⊎ SomeAsks all
    all_or_asks [] = inl (λ k d lt. absurd (omega (arith, lt)))
    all_or_asks (pairs ∷ all) = by_list (favours_or_asks pairs) (all_or_asks all)
      where
        by_list : Favours H pairs ⊎ Asks pairs → All (Favours H) all ⊎ SomeAsks all → All (Favours H) (pairs ∷ all) ⊎ SomeAsks (pairs ∷ all)
        by_list (inr asks) d = inr (pairs, cons_here pairs all pairs refl, asks)
        by_list (inl favours) (inl rest) = inl (all_cons (Favours H) pairs all favours rest)
        by_list (inl favours) (inr (other, among, asks)) = inr (other, cons_later pairs all other among, asks)
