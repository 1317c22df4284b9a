-- Pairs at the places so far.
use Rattle.std.proofs.Common.{◌≡◌, ◌⊎◌, ◌<◌, ◌≤◌, ℕ, zero, suc, ◌+◌, List, [], ◌∷◌, ◌++◌, length, get_or, slice_get, Some, refl, sym, ap, ◌∙◌, subst, arith, inl, inr, length-append}
use Rattle.std.proofs.lemmas.Option.{slice_get_within, get_or_from_slice_get, slice_get-get_or}
use Rattle.std.proofs.lemmas.Bool.{cases_lt}
use Rattle.bmc_windows.specs.Pairing.{ArePairs, IsMoved, AddsPair}
use Rattle.bmc_windows.proofs.PushLemmas.{push_kept, push_at}

-- the pairs at the first places
pub record PairsTo (pairs : List (ℕ × ℕ)) (row a b : List ℕ) (i : ℕ) : Type 0 where
  pub each : (j m n : ℕ) → j < i → slice_get a j ≡ Some m → slice_get b j ≡ Some n → (k : ℕ) × (slice_get row j ≡ Some k) × (slice_get pairs k ≡ Some (m, n))
  pub long : i ≤ length b → length row ≡ i

pub pairs_none : (a b : List ℕ) → PairsTo [] [] a b 0
pairs_none a b = record { each = λ j m n lt. absurd (omega arith); long = λ le. refl }

-- one place more
pub pairs_more : (old new : List (ℕ × ℕ)) (before after a b : List ℕ) (i m n : ℕ) → PairsTo old before a b i → AddsPair old new before after (m, n) → i < length a → i < length b → m ≡ get_or a i m → n ≡ get_or b i n → PairsTo new after a b (i + 1)
pairs_more old new before after a b i m n h more lta ltb here there =
    let number = more.number in
    let count : length before ≡ i = h.long (omega (arith, ltb)) in
    record {
      each = λ j p q lt at_a at_b. elim (cases_lt j i) [
        | inl less ↦ (let r = h.each j p q less at_a at_b in
            (r.0, ap (λ (s : List ℕ). slice_get s j) number.1 ∙ push_kept before number.0 j r.0 r.1, more.kept r.0 (p, q) r.2))
        | inr ge ↦ (let same : j ≡ i = omega (arith, lt, ge) in
            let first : m ≡ p = here ∙ ap (λ (k : ℕ). get_or a k m) (sym same) ∙ get_or_from_slice_get a j p m at_a in
            let second : n ≡ q = there ∙ ap (λ (k : ℕ). get_or b k n) (sym same) ∙ get_or_from_slice_get b j q n at_b in
            (number.0, ap (λ (s : List ℕ). slice_get s j) number.1 ∙ push_at before number.0 j (same ∙ sym count), number.2 ∙ ap (λ (k : ℕ). Some (k, n)) first ∙ ap (λ (k : ℕ). Some (p, k)) second))
      ];
      long = λ le. ap (λ (s : List ℕ). length s) number.1 ∙ length-append before (number.0 ∷ []) ∙ (let e = count in omega (arith, e));
    }

-- a place where the second row has ended
pub pairs_past : (pairs : List (ℕ × ℕ)) (row a b : List ℕ) (i : ℕ) → PairsTo pairs row a b i → length b ≤ i → PairsTo pairs row a b (i + 1)
pairs_past pairs row a b i h le = record {
  each = λ j m n lt at_a at_b. (let inside = slice_get_within b j n at_b in h.each j m n (omega (arith, inside, le)) at_a at_b);
  long = λ over. absurd (omega (arith, over, le));
}

pub pairs_all : (pairs : List (ℕ × ℕ)) (row a b : List ℕ) (i : ℕ) → length a ≤ i → PairsTo pairs row a b i → ArePairs pairs row a b
pairs_all pairs row a b i over h = λ j m n at_a at_b. (let inside = slice_get_within a j m at_a in h.each j m n (omega (arith, inside, over)) at_a at_b)

-- the numbers moved so far
pub record MovedTo (row from new : List ℕ) (i : ℕ) : Type 0 where
  pub long : length new ≡ i
  pub each : (j k n : ℕ) → j < i → slice_get from j ≡ Some k → slice_get row k ≡ Some n → slice_get new j ≡ Some n

pub moved_none : (row from : List ℕ) → MovedTo row from [] 0
moved_none row from = record { long = refl; each = λ j k n lt. absurd (omega arith) }

pub moved_more : (row from old new : List ℕ) (i k x : ℕ) → MovedTo row from old i → i < length from → k ≡ get_or from i k → ((n : ℕ) → slice_get row k ≡ Some n → x ≡ n) → new ≡ old ++ x ∷ [] → MovedTo row from new (i + 1)
moved_more row from old new i k x h lt here found is = subst (λ (s : List ℕ). MovedTo row from s (i + 1)) (sym is) (record {
  long = length-append old (x ∷ []) ∙ ap (λ (n : ℕ). n + 1) h.long;
  each = λ j p n under at there. elim (cases_lt j i) [
    | inl less ↦ push_kept old x j n (h.each j p n less at there)
    | inr ge ↦ (let same : j ≡ i = omega (arith, under, ge) in
        let first : k ≡ p = here ∙ ap (λ (q : ℕ). get_or from q k) (sym same) ∙ get_or_from_slice_get from j p k at in
        push_at old x j (same ∙ sym h.long) ∙ ap Some (found n (ap (λ (q : ℕ). slice_get row q) first ∙ there)))
  ];
})

pub moved_all : (row from new : List ℕ) (i : ℕ) → length from ≤ i → MovedTo row from new i → IsMoved row from new
moved_all row from new i over h = λ j k n at there. (let inside = slice_get_within from j k at in h.each j k n (omega (arith, inside, over)) at there)
