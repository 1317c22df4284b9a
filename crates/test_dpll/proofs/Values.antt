-- The value that the steps give to a literal, and what their denial makes false.
use Rattle.std.proofs.Common.{◌≡◌, ◌≢◌, ℕ, zero, suc, ◌<◌, ◌≤◌, ℤ, pos, negsuc, nat_abs, neg_ℤ, Bool, true, false, cond, not, ◌||◌, eq-eqb, List, [], ◌∷◌, ◌++◌, reverse, Option, Some, None, refl, sym, ap, ◌∙◌, subst, arith, inl, inr, length, get_or, ◌-◌}
use Rattle.std.specs.Ordering.{int_eq}
use Rattle.std.specs.Cmp.{signed_Decides}
use Rattle.std.proofs.lemmas.Bool.{cases_eq, ne_eqb, false_from_ne_true}
use Rattle.std.proofs.lemmas.List.{get_or-reverse, reverse-append, length-reverse}
use Rattle.sat_lrat.specs.Step.{among}
use Rattle.test_dpll.specs.declared.path.Step.{Step}
use Rattle.test_dpll.specs.Steps.{is_positive, value_by, under, denial_of, IsApart}

-- a literal that is false
abbrev pub is_false : Option Bool → Bool
is_false None = false
is_false (Some value) = not value

pub nat_abs-neg : (z : ℤ) → nat_abs (neg_ℤ z) ≡ nat_abs z
nat_abs-neg (pos zero) = refl
nat_abs-neg (pos (suc n)) = refl
nat_abs-neg (negsuc n) = refl

pub not_same : (y x : ℤ) → y ≢ x → int_eq y x ≡ false
not_same y x ne = false_from_ne_true (int_eq y x) (λ e. ne ((signed_Decides y x).0 e))

pub same_one : (y x : ℤ) → y ≡ x → int_eq y x ≡ true
same_one y x e = (signed_Decides y x).1 e

one_variable : (l x : ℤ) → nat_abs l ≡ nat_abs x → 0 < nat_abs x → int_eq (neg_ℤ l) x ≡ is_false (under x (Some (is_positive l)))
one_variable (pos zero) (pos b) e h = absurd (omega arith)
one_variable (pos zero) (negsuc b) e h = absurd (omega arith)
one_variable (pos (suc a)) (pos b) e h = not_same (negsuc a) (pos b) (λ s. cc)
one_variable (pos (suc a)) (negsuc b) e h = same_one (negsuc a) (negsuc b) (let s : a ≡ b = omega arith in ap negsuc s)
one_variable (negsuc a) (pos b) e h = same_one (pos (suc a)) (pos b) (ap pos e)
one_variable (negsuc a) (negsuc b) e h = not_same (pos (suc a)) (negsuc b) (λ s. cc)

other_variable : (l x : ℤ) → nat_abs l ≢ nat_abs x → int_eq (neg_ℤ l) x ≡ false
other_variable l x ne = not_same (neg_ℤ l) x (λ e. ne (sym (nat_abs-neg l) ∙ ap nat_abs e))

pub value_here : (step : Step) (below : List Step) (n : ℕ) → nat_abs step.literal ≡ n → value_by (step ∷ below) n ≡ Some (is_positive step.literal)
value_here step below n e = ap (λ b. cond b (Some (is_positive step.literal)) (value_by below n)) (eq-eqb (nat_abs step.literal) n e)

pub value_below : (step : Step) (below : List Step) (n : ℕ) → nat_abs step.literal ≢ n → value_by (step ∷ below) n ≡ value_by below n
value_below step below n ne = ap (λ b. cond b (Some (is_positive step.literal)) (value_by below n)) (ne_eqb (nat_abs step.literal) n ne)

or_false : (a : Bool) → (a || false) ≡ a
or_false true = refl
or_false false = refl

-- the denial of the steps has just the literals that are false by them
pub denial_false : (most : ℕ) (steps : List Step) (x : ℤ) → 0 < nat_abs x → IsApart most steps → among (denial_of steps) x ≡ is_false (under x (value_by steps (nat_abs x)))
denial_false most [] x h apart = refl
denial_false most (step ∷ below) x h apart = elim (cases_eq (nat_abs step.literal) (nat_abs x)) [
  | inl e ↦
      let none : value_by below (nat_abs x) ≡ None = sym (ap (value_by below) e) ∙ apart.2 in
      ap (λ b. int_eq (neg_ℤ step.literal) x || b) (denial_false most below x h apart.3 ∙ ap (λ o. is_false (under x o)) none)
      ∙ or_false (int_eq (neg_ℤ step.literal) x)
      ∙ one_variable step.literal x e h
      ∙ ap (λ o. is_false (under x o)) (sym (value_here step below (nat_abs x) e))
  | inr ne ↦
      ap (λ b. b || among (denial_of below) x) (other_variable step.literal x ne)
      ∙ denial_false most below x h apart.3
      ∙ ap (λ o. is_false (under x o)) (sym (value_below step below (nat_abs x) ne))
]

pub reverse_push : {X : Type 0} (xs : List X) (x : X) → reverse (xs ++ x ∷ []) ≡ x ∷ reverse xs
reverse_push xs x = reverse-append xs (x ∷ [])

pub literal_at : (most : ℕ) (steps : List Step) (k : ℕ) (d : Step) → IsApart most steps → k < length steps
    → (0 < nat_abs (get_or steps k d).literal) × (nat_abs (get_or steps k d).literal ≤ most)
literal_at most [] k d apart h = absurd (omega arith)
literal_at most (step ∷ below) zero d apart h = (apart.0, apart.1)
literal_at most (step ∷ below) (suc k) d apart h = literal_at most below k d apart.3 (omega arith)

-- each step is of one of the variables
pub step_at : (most : ℕ) (items : List Step) (place : ℕ) (d : Step) → IsApart most (reverse items) → place < length items
    → (0 < nat_abs (get_or items place d).literal) × (nat_abs (get_or items place d).literal ≤ most)
step_at most items place d apart h =
    let back : length items - 1 - (length items - 1 - place) ≡ place = omega arith in
    let below : length items - 1 - place < length (reverse items) = omega (arith, length-reverse items) in
    let inside : length items - 1 - place < length items = omega arith in
    let same : get_or (reverse items) (length items - 1 - place) d ≡ get_or items place d = get_or-reverse items (length items - 1 - place) d inside ∙ ap (λ n. get_or items n d) back in
    let P : Step → Type 0 = λ step. (0 < nat_abs step.literal) × (nat_abs step.literal ≤ most) in
    subst P same (literal_at most (reverse items) (length items - 1 - place) d apart below)

-- 0 is no variable
pub value_zero : (most : ℕ) (steps : List Step) → IsApart most steps → value_by steps 0 ≡ None
value_zero most [] apart = refl
value_zero most (step ∷ below) apart = value_below step below 0 (λ e. let h : 0 < nat_abs step.literal = apart.0 in absurd (omega arith)) ∙ value_zero most below apart.3
