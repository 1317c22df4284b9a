-- The ways to cut a list of numbers in two, and the parts of the tuples of a listed set.
use Rattle.std.specs.Prelude.{◌≡◌, ◌⊎◌, ℕ, List, [], ◌∷◌, ◌++◌}
use Rattle.std.proofs.Common.{inl, inr, refl, sym, ap, subst, ◌∙◌}
use Rattle.core_meaning.specs.Operators.{Tuples}
use Rattle.core_decided.specs.Decided.{IsDecided, IsListed}
use Rattle.core_decided.proofs.Listing.{decided_list, same_head, same_rest, some_is_none, listed_by, listed_none, listed_one, listed_either, listed_over, decided_any}

-- two parts of a list
abbrev pub Parts : Type 0
Parts = List ℕ × List ℕ

abbrev pub IsCut : List ℕ → Parts → Type 0
IsCut t p = t ≡ p.0 ++ p.1

-- the front of a cut behind the first number
after_first : (x : ℕ) (t : List ℕ) (p : Parts) → x ∷ t ≡ p.0 ++ p.1 → (p ≡ ([], x ∷ t)) ⊎ ((q : Parts) × IsCut t q × (p ≡ (x ∷ q.0, q.1)))
after_first x t ([], u) e = inl (ap (λ (v : List ℕ). ([], v)) (sym e))
after_first x t (y ∷ s, u) e = inr ((s, u), same_rest e, ap (λ (z : ℕ). (z ∷ s, u)) (sym (same_head e)))

first_none : (p : Parts) → [] ≡ p.0 ++ p.1 → p ≡ ([], [])
first_none ([], u) e = ap (λ (v : List ℕ). ([], v)) (sym e)
first_none (y ∷ s, u) e = absurd (some_is_none y (s ++ u) e)

-- a list has finitely many cuts
cuts : (t : List ℕ) → IsListed (IsCut t)
cuts [] = listed_one (IsCut []) ([], []) refl first_none
cuts (x ∷ t) =
    listed_by (λ p. (p ≡ ([], x ∷ t)) ⊎ ((q : Parts) × IsCut t q × (p ≡ (x ∷ q.0, q.1)))) (IsCut (x ∷ t))
    (λ p. elim [ inl e ↦ subst (IsCut (x ∷ t)) (sym e) refl | inr (q, c, e) ↦ subst (IsCut (x ∷ t)) (sym e) (ap (λ l. x ∷ l) c) ])
    (after_first x t)
    (listed_either (λ p. p ≡ ([], x ∷ t)) (λ p. (q : Parts) × IsCut t q × (p ≡ (x ∷ q.0, q.1)))
    (listed_one (λ p. p ≡ ([], x ∷ t)) ([], x ∷ t) refl (λ z e. e))
    (listed_over (IsCut t) (λ q p. p ≡ (x ∷ q.0, q.1)) (cuts t) (λ q c. listed_one (λ p. p ≡ (x ∷ q.0, q.1)) (x ∷ q.0, q.1) refl (λ z e. e))))

-- what a test on the parts of a list leaves
pub cut_that : (P : Parts → List ℕ → Type 0) → ((p : Parts) → IsListed (P p)) → (t : List ℕ) → IsListed (λ u. (p : Parts) × IsCut t p × P p u)
cut_that P d t = listed_over (IsCut t) P (cuts t) (λ p c. d p)

-- whether a list can be cut so
pub decided_cut : (P : Parts → Type 0) → ((p : Parts) → IsDecided (P p)) → (t : List ℕ) → IsDecided ((p : Parts) × IsCut t p × P p)
decided_cut P d t = decided_any (IsCut t) P (cuts t) (λ p c. d p)

-- the parts that follow a list in a set, and those that precede it
pub listed_after : (A : Tuples) → IsListed A → (s : List ℕ) → IsListed (λ u. A (s ++ u))
listed_after A l s =
    listed_by (λ u. (t : List ℕ) × A t × ((p : Parts) × IsCut t p × ((p.0 ≡ s) × (u ≡ p.1)))) (λ u. A (s ++ u))
    (λ u (t, a, (p, c, b)). subst A (c ∙ ap (λ v. v ++ p.1) b.0 ∙ ap (λ v. s ++ v) (sym b.1)) a)
    (λ u a. (s ++ u, a, ((s, u), refl, (refl, refl))))
    (listed_over A (λ t u. (p : Parts) × IsCut t p × ((p.0 ≡ s) × (u ≡ p.1))) l (λ t a. cut_that (λ p u. (p.0 ≡ s) × (u ≡ p.1)) one t))
  where
    one : (p : Parts) → IsListed (λ (u : List ℕ). (p.0 ≡ s) × (u ≡ p.1))
    one p = elim (decided_list p.0 s) [
      | inl e ↦ listed_one (λ (u : List ℕ). (p.0 ≡ s) × (u ≡ p.1)) p.1 (e, refl) (λ z b. b.1)
      | inr n ↦ listed_none (λ (u : List ℕ). (p.0 ≡ s) × (u ≡ p.1)) (λ z b. n b.0)
    ]

pub listed_before : (A : Tuples) → IsListed A → (u : List ℕ) → IsListed (λ s. A (s ++ u))
listed_before A l u =
    listed_by (λ s. (t : List ℕ) × A t × ((p : Parts) × IsCut t p × ((p.1 ≡ u) × (s ≡ p.0)))) (λ s. A (s ++ u))
    (λ s (t, a, (p, c, b)). subst A (c ∙ ap (λ v. p.0 ++ v) b.0 ∙ ap (λ v. v ++ u) (sym b.1)) a)
    (λ s a. (s ++ u, a, ((s, u), refl, (refl, refl))))
    (listed_over A (λ t s. (p : Parts) × IsCut t p × ((p.1 ≡ u) × (s ≡ p.0))) l (λ t a. cut_that (λ p s. (p.1 ≡ u) × (s ≡ p.0)) one t))
  where
    one : (p : Parts) → IsListed (λ (s : List ℕ). (p.1 ≡ u) × (s ≡ p.0))
    one p = elim (decided_list p.1 u) [
      | inl e ↦ listed_one (λ (s : List ℕ). (p.1 ≡ u) × (s ≡ p.0)) p.0 (e, refl) (λ z b. b.1)
      | inr n ↦ listed_none (λ (s : List ℕ). (p.1 ≡ u) × (s ≡ p.0)) (λ z b. n b.0)
    ]

-- a list of one number, and of two
pub single_cases : (t : List ℕ) → ((x : ℕ) × (t ≡ x ∷ [])) ⊎ ((x : ℕ) → t ≡ x ∷ [] → ⊥)
single_cases [] = inr (λ x e. some_is_none x [] e)
single_cases (x ∷ []) = inl (x, refl)
single_cases (x ∷ y ∷ t) = inr (λ z e. some_is_none y t (sym (same_rest e)))

pub pair_cases : (t : List ℕ) → ((x y : ℕ) × (t ≡ x ∷ y ∷ [])) ⊎ ((x y : ℕ) → t ≡ x ∷ y ∷ [] → ⊥)
pair_cases [] = inr (λ x y e. some_is_none x (y ∷ []) e)
pair_cases (x ∷ []) = inr (λ u v e. some_is_none v [] (same_rest e))
pair_cases (x ∷ y ∷ []) = inl (x, y, refl)
pair_cases (x ∷ y ∷ z ∷ t) = inr (λ u v e. some_is_none z t (sym (same_rest (same_rest e))))

-- the atoms of a listed set
pub listed_atoms : (A : Tuples) → IsListed A → IsListed (λ (a : ℕ). A (a ∷ []))
listed_atoms A l =
    listed_by (λ (a : ℕ). (t : List ℕ) × A t × (t ≡ a ∷ [])) (λ (a : ℕ). A (a ∷ []))
    (λ a (t, b, e). subst A e b) (λ a b. (a ∷ [], b, refl))
    (listed_over A (λ t a. t ≡ a ∷ []) l (λ t b. one t (single_cases t)))
  where
    one : (t : List ℕ) → ((x : ℕ) × (t ≡ x ∷ [])) ⊎ ((x : ℕ) → t ≡ x ∷ [] → ⊥) → IsListed (λ (a : ℕ). t ≡ a ∷ [])
    one t (inl (x, e)) = listed_one (λ a. t ≡ a ∷ []) x e (λ z f. same_head (sym f ∙ e))
    one t (inr n) = listed_none (λ a. t ≡ a ∷ []) n
