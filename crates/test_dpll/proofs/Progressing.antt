-- The steps as a number: it grows with each step, and with each turn of one.
use Rattle.std.proofs.Common.{◌≡◌, ℕ, suc, ◌+◌, ◌-◌, ◌*◌, ◌^◌, ◌<◌, ◌≤◌, true, false, eqb, nat_abs, List, [], ◌∷◌, map, length, Option, Some, None, sym, ap, ◌∙◌, subst, arith, inl, inr, add_assoc}
use Rattle.std.proofs.Math.Nat.{mul_comm, mul_assoc, add-mul, pow-succ', one-le-pow}
use Rattle.std.specs.List.{list_any, AllByRecursion, IsDistinct}
use Rattle.std.proofs.lemmas.Bool.{eqb-true, ne_eqb, or_cases, cases_eq}
use Rattle.std.proofs.lemmas.List.{length-map}
use Rattle.std.proofs.lemmas.Map.Steps.{length-le_from_distinct_below}
use Rattle.test_dpll.specs.declared.path.Step.{Step}
use Rattle.test_dpll.specs.Steps.{is_positive, value_by, IsApart}
use Rattle.test_dpll.specs.Progress.{digit, number_of, come_to, left}
use Rattle.test_dpll.proofs.Values.{value_here, value_below}

-- ---- there are no more steps than variables

others_differ : (most n : ℕ) (below : List Step) → 0 < n → value_by below n ≡ None → IsApart most below → AllByRecursion (λ y. eqb (n - 1) y ≡ false) (map (λ step. nat_abs step.literal - 1) below)
others_differ most n [] h none apart = tt
others_differ most n (step ∷ below) h none apart = elim (cases_eq (nat_abs step.literal) n) [
  | inl e ↦ let bad : Some (is_positive step.literal) ≡ None = sym (value_here step below n e) ∙ none in cc
  | inr ne ↦ (
    ne_eqb (n - 1) (nat_abs step.literal - 1) (λ e. let p : 0 < nat_abs step.literal = apart.0 in ne (omega arith)),
    others_differ most n below h (sym (value_below step below n ne) ∙ none) apart.3,
  )
]

distinct_places : (most : ℕ) (steps : List Step) → IsApart most steps → IsDistinct eqb (map (λ step. nat_abs step.literal - 1) steps)
unfolding IsDistinct
distinct_places most [] apart = tt
distinct_places most (step ∷ below) apart = (others_differ most (nat_abs step.literal) below apart.0 apart.2 apart.3, distinct_places most below apart.3)

below_most : (most : ℕ) (steps : List Step) → IsApart most steps → (q : ℕ) → list_any (eqb q) (map (λ step. nat_abs step.literal - 1) steps) ≡ true → q < most
below_most most [] apart q e = cc
below_most most (step ∷ below) apart q e = elim (or_cases (eqb q (nat_abs step.literal - 1)) (list_any (eqb q) (map (λ step. nat_abs step.literal - 1) below)) e) [
  | inl same ↦ let is : q ≡ nat_abs step.literal - 1 = eqb-true q (nat_abs step.literal - 1) same in let p : 0 < nat_abs step.literal = apart.0 in let r : nat_abs step.literal ≤ most = apart.1 in omega arith
  | inr later ↦ below_most most below apart.3 q later
]

pub length_apart : (most : ℕ) (steps : List Step) → IsApart most steps → length steps ≤ most
length_apart most steps apart =
    let places = map (λ (step : Step). nat_abs step.literal - 1) steps in
    let h : length places ≤ most = length-le_from_distinct_below places most (distinct_places most steps apart) (below_most most steps apart) in
    omega (arith, h, length-map steps (λ (step : Step). nat_abs step.literal - 1))

-- ---- the number grows

swap_three : (d t : ℕ) → (3 * d) * t ≡ d * (3 * t)
swap_three d t = ap (λ n. n * t) (mul_comm 3 d) ∙ mul_assoc d 3 t

digit_more : (d g t : ℕ) → (3 * d + g) * t ≡ d * (3 * t) + g * t
digit_more d g t = add-mul (3 * d) g t ∙ ap (λ n. n + g * t) (swap_three d t)

power_more : (most n : ℕ) → n + 1 ≤ most → 3 ^ (most - n) ≡ 3 * 3 ^ (most - suc n)
power_more most n h = let e : most - n ≡ suc (most - suc n) = omega arith in ap (λ k. 3 ^ k) e ∙ pow-succ' 3 (most - suc n)

one_at_least : (k : ℕ) → 1 ≤ 3 ^ k
one_at_least k = one-le-pow k 3 (omega arith)

-- one step more
pub come_to_more : (most : ℕ) (step : Step) (below : List Step) → length below + 1 ≤ most → come_to most below < come_to most (step ∷ below)
come_to_more most step below h =
    let t = 3 ^ (most - suc (length below)) in
    let here : come_to most below ≡ number_of below * (3 * t) = ap (λ p. number_of below * p) (power_more most (length below) h) in
    let there : come_to most (step ∷ below) ≡ number_of below * (3 * t) + digit step.reason * t = digit_more (number_of below) (digit step.reason) t in
    subst (λ n. n < come_to most (step ∷ below)) (sym here) (subst (λ n. number_of below * (3 * t) < n) (sym there) (by_reason step.reason (number_of below * (3 * t)) t (one_at_least (most - suc (length below)))))
  where
    by_reason : (reason : Option ℕ) (n t : ℕ) → 1 ≤ t → n < n + digit reason * t
    by_reason None n t one = omega arith
    by_reason (Some number) n t one = omega arith

-- the steps come before their end
pub come_to_end : (most : ℕ) (steps : List Step) → come_to most steps < (number_of steps + 1) * 3 ^ (most - length steps)
come_to_end most steps =
    let t = 3 ^ (most - length steps) in
    let one : 1 ≤ t = one_at_least (most - length steps) in
    let e : (number_of steps + 1) * t ≡ number_of steps * t + 1 * t = add-mul (number_of steps) 1 t in
    subst (λ n. number_of steps * t < n) (sym e) (omega arith)

-- a step less
pub end_less : (most : ℕ) (step : Step) (below : List Step) → length below + 1 ≤ most
    → (number_of (step ∷ below) + 1) * 3 ^ (most - length (step ∷ below)) ≤ (number_of below + 1) * 3 ^ (most - length below)
end_less most step below h =
    let t = 3 ^ (most - suc (length below)) in
    let d = number_of below in
    let here : (3 * d + digit step.reason + 1) * t ≡ d * (3 * t) + (digit step.reason + 1) * t =
    ap (λ n. n * t) (add_assoc (3 * d) (digit step.reason) 1) ∙ digit_more d (digit step.reason + 1) t in
    let there : (d + 1) * 3 ^ (most - length below) ≡ d * (3 * t) + 1 * (3 * t) = ap (λ p. (d + 1) * p) (power_more most (length below) h) ∙ add-mul d 1 (3 * t) in
    subst (λ n. n ≤ (d + 1) * 3 ^ (most - length below)) (sym here) (subst (λ n. d * (3 * t) + (digit step.reason + 1) * t ≤ n) (sym there) (by_reason step.reason (d * (3 * t)) t))
  where
    by_reason : (reason : Option ℕ) (n t : ℕ) → n + (digit reason + 1) * t ≤ n + 1 * (3 * t)
    by_reason None n t = omega arith
    by_reason (Some number) n t = omega arith

-- a step that was tried ends where the one turned round begins
pub end_tried : (most : ℕ) (tried turned : Step) (below : List Step) (number : ℕ) → tried.reason ≡ None → turned.reason ≡ Some number
    → (number_of (tried ∷ below) + 1) * 3 ^ (most - length (tried ∷ below)) ≡ come_to most (turned ∷ below)
end_tried most tried turned below number none some =
    let t = 3 ^ (most - suc (length below)) in
    let e : 3 * number_of below + digit tried.reason + 1 ≡ 3 * number_of below + digit turned.reason =
    ap (λ r. 3 * number_of below + digit r + 1) none ∙ add_assoc (3 * number_of below) 1 1 ∙ ap (λ r. 3 * number_of below + digit r) (sym some) in
    ap (λ n. n * t) e

-- no more than there is to do
pub end_within : (most : ℕ) (steps : List Step) → length steps ≤ most → (number_of steps + 1) * 3 ^ (most - length steps) ≤ 3 ^ most
end_within most [] h =
    let e : most - 0 ≡ most = omega arith in
    subst (λ k. (0 + 1) * 3 ^ k ≤ 3 ^ most) (sym e) (once (3 ^ most))
  where
    once : (n : ℕ) → (0 + 1) * n ≤ n
    once n = omega arith
end_within most (step ∷ below) h =
    let first : (number_of (step ∷ below) + 1) * 3 ^ (most - length (step ∷ below)) ≤ (number_of below + 1) * 3 ^ (most - length below) = end_less most step below (omega arith) in
    le_trans first (end_within most below (omega arith))
  where
    le_trans : {a b c : ℕ} → a ≤ b → b ≤ c → a ≤ c
    le_trans p q = omega arith

minus_less : (total old new : ℕ) → old < new → new ≤ total → total - new < total - old
minus_less total old new h k = omega arith

-- less is left
pub left_less : (most : ℕ) (old new : List Step) → length new ≤ most → come_to most old < come_to most new → left most new < left most old
left_less most old new room more =
    minus_less (3 ^ most) (come_to most old) (come_to most new) more
    (le_from (come_to most new) ((number_of new + 1) * 3 ^ (most - length new)) (3 ^ most) (come_to_end most new) (end_within most new room))
  where
    le_from : (a b c : ℕ) → a < b → b ≤ c → a ≤ c
    le_from a b c p q = omega arith
