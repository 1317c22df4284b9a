-- How the values change with a step.
use Rattle.std.proofs.Common.{◌≡◌, ℕ, ◌+◌, ◌<◌, ℤ, nat_abs, neg_ℤ, Bool, List, [], ◌∷◌, ◌++◌, length, take, set, get_or, Option, Some, None, sym, ap, ◌∙◌, subst, arith, inl, inr, reverse, append_assoc}
use Rattle.std.proofs.lemmas.Bool.{cases_eq}
use Rattle.std.proofs.lemmas.List.{get_or-set_same, get_or-set_other, take_more}
use Rattle.test_dpll.specs.declared.path.Step.{Step}
use Rattle.test_dpll.specs.Steps.{is_positive, value_by, denial_of}
use Rattle.test_dpll.proofs.Values.{value_here, value_below, reverse_push}

-- the values are those by the steps
abbrev pub Tied : List (Option Bool) → List Step → Type 0
Tied values steps = (place : ℕ) → place < length values → get_or values place None ≡ value_by steps (place + 1)

pub tied_more : (values : List (Option Bool)) (step : Step) (below : List Step) (p place : ℕ) → p + 1 ≡ nat_abs step.literal → Tied values below → place < length values
    → get_or (set values p (Some (is_positive step.literal))) place None ≡ value_by (step ∷ below) (place + 1)
tied_more values step below p place e tied h = elim (cases_eq place p) [
  | inl same ↦
      subst (λ n. get_or (set values p (Some (is_positive step.literal))) n None ≡ Some (is_positive step.literal)) (sym same)
      (get_or-set_same values p (Some (is_positive step.literal)) None (omega arith))
      ∙ sym (value_here step below (place + 1) (omega arith))
  | inr ne ↦
      get_or-set_other values p place (Some (is_positive step.literal)) None ne ∙ tied place h
      ∙ sym (value_below step below (place + 1) (λ same. ne (omega arith)))
]

pub tied_less : (values : List (Option Bool)) (step : Step) (below : List Step) (p place : ℕ) → p + 1 ≡ nat_abs step.literal → Tied values (step ∷ below) → value_by below (nat_abs step.literal) ≡ None → place < length values
    → get_or (set values p None) place None ≡ value_by below (place + 1)
tied_less values step below p place e tied free h = elim (cases_eq place p) [
  | inl same ↦
      let there : nat_abs step.literal ≡ place + 1 = omega arith in
      subst (λ n. get_or (set values p None) n None ≡ None) (sym same) (get_or-set_same values p None None (omega arith))
      ∙ sym (sym (ap (value_by below) there) ∙ free)
  | inr ne ↦
      get_or-set_other values p place None None ne ∙ tied place h
      ∙ value_below step below (place + 1) (λ same. ne (omega arith))
]

-- the denial of the first steps, with one more
pub denial_more : (steps : List Step) (p q : ℕ) (clause : List ℤ) (d : Step) (literal : ℤ) → q ≡ p + 1 → p < length steps → literal ≡ neg_ℤ (get_or steps p d).literal
    → (clause ++ literal ∷ []) ++ denial_of (reverse (take p steps)) ≡ clause ++ denial_of (reverse (take q steps))
denial_more steps p q clause d literal e h is =
    append_assoc clause (literal ∷ []) (denial_of (reverse (take p steps)))
    ∙ ap (λ l. clause ++ l ∷ denial_of (reverse (take p steps))) is
    ∙ ap (λ ss. clause ++ denial_of ss) (sym (reverse_push (take p steps) (get_or steps p d)))
    ∙ ap (λ ss. clause ++ denial_of (reverse ss)) (sym (take_more steps p d h))
    ∙ ap (λ n. clause ++ denial_of (reverse (take n steps))) (sym e)
