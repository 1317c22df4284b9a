-- Periods of a sequence.
use Rattle.std.proofs.Common.{◌≡◌, ◌⊎◌, inl, inr, ℕ, zero, suc, ◌+◌, ◌*◌, ◌/◌, ◌%◌, ◌<◌, ◌≤◌, ap, sym, ◌∙◌, arith}
use Rattle.std.proofs.Math.Nat.{mod-add-div', le-mul_of_pos_right}
use Rattle.std.proofs.lemmas.Bool.{cases_lt}
use Rattle.std.proofs.Math.Nat.{mod-lt}

-- from a place on, the sequence is the same q places later
abbrev pub IsPeriod : {X : Type 0} → (ℕ → X) → ℕ → ℕ → Type 0
IsPeriod s from q = (i : ℕ) → from ≤ i → s i ≡ s (i + q)

-- and so any number of rounds later
pub rounds : {X : Type 0} (s : ℕ → X) (from q k i : ℕ) → IsPeriod s from q → from ≤ i → s i ≡ s (i + k * q)
rounds s from q zero i p le = ap s (omega arith)
rounds s from q (suc k) i p le =
    let here = p i le in
    let further = rounds s from q k (i + q) p (omega arith) in
    let sum : i + q + k * q ≡ i + suc k * q = omega arith in
    here ∙ (further ∙ ap s sum)

-- what is left of a round by a period is a period, or nothing
pub left_over : {X : Type 0} (s : ℕ → X) (from round q : ℕ) → IsPeriod s from round → IsPeriod s from q → IsPeriod s from (round % q)
left_over s from round q whole p i le =
    let whole_sum : i + round % q + round / q * q ≡ i + round = let e = mod-add-div' round q in omega arith in
    whole i le ∙ sym (rounds s from q (round / q) (i + round % q) p (omega arith) ∙ ap s whole_sum)

-- a period of a sequence with a round, from a later place on
pub later : {X : Type 0} (s : ℕ → X) (start round b q : ℕ) → IsPeriod s start round → 0 < round → IsPeriod s b q → IsPeriod s start q
later s start round b q whole some p i le =
    let far = le-mul_of_pos_right b some in
    let there = rounds s start round b i whole le in
    let on = p (i + b * round) (omega arith) in
    let back = rounds s start round b (i + q) whole (omega arith) in
    let sum : i + b * round + q ≡ i + q + b * round = omega arith in
    there ∙ (on ∙ (ap s sum ∙ sym back))

-- Among the divisors of a round no period is less than d. Then no period is.
least_at : {X : Type 0} (s : ℕ → X) (start round d : ℕ) → IsPeriod s start round → ((q : ℕ) → 0 < q → q < d → round % q ≡ 0 → IsPeriod s start q → ⊥) → (n q : ℕ) → ((r : ℕ) → r ≤ n → 0 < r → IsPeriod s start r → d ≤ r) → q ≤ suc n → 0 < q → IsPeriod s start q → (q < d) ⊎ (d ≤ q) → (0 < round % q) ⊎ (round % q ≤ 0) → d ≤ q
least_at s start round d whole none n q less le some p (inr far) rest = far
least_at s start round d whole none n q less le some p (inl near) (inr nothing) = absurd (none q some near (omega arith) p)
least_at s start round d whole none n q less le some p (inl near) (inl left) =
    let below = mod-lt round some in
    let more = less (round % q) (omega arith) left (left_over s start round q whole p) in
    omega arith

pub least_is : {X : Type 0} (s : ℕ → X) (start round d : ℕ) → IsPeriod s start round → ((q : ℕ) → 0 < q → q < d → round % q ≡ 0 → IsPeriod s start q → ⊥) → (n q : ℕ) → q ≤ n → 0 < q → IsPeriod s start q → d ≤ q
least_is s start round d whole none zero q le some p = absurd (omega arith)
least_is s start round d whole none (suc n) q le some p = least_at s start round d whole none n q (least_is s start round d whole none n) le some p (cases_lt q d) (cases_lt 0 (round % q))

-- A period from an earlier place on, in a sequence with period d from a later one.
pub earlier : {X : Type 0} (s : ℕ → X) (start d b q : ℕ) → 0 < q → IsPeriod s start d → IsPeriod s b q → IsPeriod s b d
earlier s start d b q some whole p i le =
    let far = le-mul_of_pos_right start some in
    let there = rounds s b q start i p le in
    let on = whole (i + start * q) (omega arith) in
    let back = rounds s b q start (i + d) p (omega arith) in
    let sum : i + start * q + d ≡ i + d + start * q = omega arith in
    there ∙ (on ∙ (ap s sum ∙ sym back))
