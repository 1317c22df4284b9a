-- Levels and hints, one after another.
use Rattle.std.proofs.Common.{ℕ, ◌+◌, ◌<◌, ◌≤◌, ◌≡◌, ℤ, List, max, length, refl, sym, ap, subst, inl, inr, ◌⊎◌, ⊎_elim, arith}
use Rattle.std.proofs.lemmas.Bool.{cases_lt}
use Rattle.sat_trail.specs.Assignment.{value_at}
use Rattle.sat_trail.specs.State.{Search}
use Rattle.sat_analysis.specs.Resolved.{level}
use Rattle.sat_analysis.specs.Learnt.{IsLevelBelow, IsSecond}

-- the greatest level below the last among the literals before a place
pub record IsSecondTo (s : Search) (literals : List ℤ) (second place : ℕ) : Type 0 where
  pub greatest : (p : ℕ) → p < place → level s (value_at literals p) < length s.limits → level s (value_at literals p) ≤ second
  pub met : (second ≡ 0) ⊎ ((p : ℕ) × (p < length literals) × (level s (value_at literals p) ≡ second) × (second < length s.limits))

pub second_none : (s : Search) (literals : List ℤ) → IsSecondTo s literals 0 0
second_none s literals = record { greatest = λ p b. absurd (omega (arith, b)); met = inl refl }

pub second_more : (s : Search) (literals : List ℤ) (second place more now : ℕ) → place < length literals → IsLevelBelow s (value_at literals place) (length s.limits) more → now ≡ max second more → IsSecondTo s literals second place → IsSecondTo s literals now (place + 1)
second_more s literals second place more now within one is h = record {
  greatest = λ p b low. ⊎_elim
      (λ (o : p < place). omega (arith, h.greatest p o low, is))
      (λ (n : place ≤ p).
      let same : place ≡ p = omega (arith, n, b) in
      let here : level s (value_at literals place) < length s.limits = subst (λ (q : ℕ). level s (value_at literals q) < length s.limits) (sym same) low in
      omega (arith, one.below here, is, ap (λ (q : ℕ). level s (value_at literals q)) same))
      (cases_lt p place);
  met = ⊎_elim
      (λ (less : second < more). ⊎_elim
      (λ (low : level s (value_at literals place) < length s.limits). let value = one.below low in inr (place, within, omega (arith, value, is, less), omega (arith, value, is, less, low)))
      (λ (high : length s.limits ≤ level s (value_at literals place)). absurd (omega (arith, one.above high, less)))
      (cases_lt (level s (value_at literals place)) (length s.limits)))
      (λ (most : more ≤ second). let same : second ≡ now = omega (arith, most, is) in subst (λ (n : ℕ). (n ≡ 0) ⊎ ((p : ℕ) × (p < length literals) × (level s (value_at literals p) ≡ n) × (n < length s.limits))) same h.met)
      (cases_lt second more);
}

pub second_all : (s : Search) (literals : List ℤ) (second place : ℕ) → length literals ≤ place → IsSecondTo s literals second place → IsSecond s literals second
second_all s literals second place all h = record { greatest = λ p b low. h.greatest p (omega (arith, b, all)) low; met = h.met }
