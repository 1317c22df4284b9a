-- Whether there is a walk along the pairs of a listed set. It is by recursion on the pairs: a walk does without one of them, or
-- goes to its first atom without it, and on from its second.
use Rattle.std.specs.Prelude.{◌≡◌, ◌⊎◌, ℕ, List, [], ◌∷◌, Contains}
use Rattle.std.proofs.Common.{inl, inr, refl, sym, ap, subst, ◌∙◌}
use Rattle.core_meaning.specs.Operators.{Tuples, Walk, last_step, step, closure_tuples}
use Rattle.core_decided.specs.Decided.{IsDecided, IsListed}
use Rattle.core_decided.proofs.Listing.{decided_both, decided_either, decided_by, decided_nat, none_there, here, later, there, listed_by, listed_none, listed_one, listed_over, same_head, same_rest}
use Rattle.core_decided.proofs.Cutting.{pair_cases}

walk_on : {A : Tuples} (x y z : ℕ) → Walk A x y → Walk A y z → Walk A x z
walk_on x y z (last_step s) v = step s v
walk_on x y z (step s w) v = step s (walk_on _ y z w v)

walk_with : {A B : Tuples} → ((t : List ℕ) → A t → B t) → (x y : ℕ) → Walk A x y → Walk B x y
walk_with f x y (last_step s) = last_step (f _ s)
walk_with f x y (step s w) = step (f _ s) (walk_with f _ _ w)

-- to an atom by a walk, or there already
abbrev Comes : Tuples → ℕ → ℕ → Type 0
Comes A x y = (x ≡ y) ⊎ Walk A x y

-- without the pair of p and q, or by it
abbrev By : Tuples → ℕ → ℕ → ℕ → ℕ → Type 0
By A p q x y = Walk A x y ⊎ (Comes A x p × Comes A q y)

module _ (pairs : List (List ℕ)) (p q : ℕ) where
  abbrev Few : Tuples
  Few = Contains pairs

  abbrev More : Tuples
  More = Contains ((p ∷ q ∷ []) ∷ pairs)

  -- each walk is without the pair, or by it
  parted : (x y : ℕ) → Walk More x y → By Few p q x y
  parted x y (last_step s) = elim (there (p ∷ q ∷ []) pairs (x ∷ y ∷ []) s) [
    | inl e ↦ inr (inl (sym (same_head e)), inl (same_head (same_rest e)))
    | inr c ↦ inl (last_step c)
  ]
  parted x y (step {b = z} s w) = elim (there (p ∷ q ∷ []) pairs (x ∷ z ∷ []) s) [
    | inl e ↦ inr (
      inl (sym (same_head e)),
      elim (parted z y w) [
        | inl v ↦ inr (subst (λ k. Walk Few k y) (sym (same_head (same_rest e))) v)
        | inr b ↦ b.1
      ],
    )
    | inr c ↦ elim (parted z y w) [
      | inl v ↦ inl (step c v)
      | inr b ↦ inr (
        elim b.0 [
          | inl e ↦ inr (last_step (subst (λ k. Few (x ∷ k ∷ [])) e c))
          | inr v ↦ inr (step c v)
        ],
        b.1,
      )
    ]
  ]

  more : (x y : ℕ) → Walk Few x y → Walk More x y
  more x y w = walk_with (λ t c. later (p ∷ q ∷ []) pairs t c) x y w

  from_there : (y : ℕ) → Comes Few q y → Walk More p y
  from_there y (inl e) = last_step (subst (λ k. More (p ∷ k ∷ [])) e (here (p ∷ q ∷ []) pairs))
  from_there y (inr w) = step (here (p ∷ q ∷ []) pairs) (more q y w)

  joined : (x y : ℕ) → By Few p q x y → Walk More x y
  joined x y (inl w) = more x y w
  joined x y (inr b) = elim b.0 [
    | inl e ↦ subst (λ k. Walk More k y) (sym e) (from_there y b.1)
    | inr w ↦ walk_on x p y (more x p w) (from_there y b.1)
  ]

no_walk : (x y : ℕ) → Walk (Contains []) x y → ⊥
no_walk x y (last_step s) = none_there s
no_walk x y (step s w) = none_there s

-- a list that isn't a pair leads nowhere
module _ (t : List ℕ) (pairs : List (List ℕ)) (n : (x y : ℕ) → t ≡ x ∷ y ∷ [] → ⊥) where
  other_pair : (x y : ℕ) → Contains (t ∷ pairs) (x ∷ y ∷ []) → Contains pairs (x ∷ y ∷ [])
  other_pair x y s = elim (there t pairs (x ∷ y ∷ []) s) [ inl e ↦ absurd (n x y e) | inr c ↦ c ]

  other : (x y : ℕ) → Walk (Contains (t ∷ pairs)) x y → Walk (Contains pairs) x y
  other x y (last_step s) = last_step (other_pair x y s)
  other x y (step {b = z} s w) = step (other_pair x z s) (other z y w)

-- along the pairs of a list
walks : (pairs : List (List ℕ)) (x y : ℕ) → IsDecided (Walk (Contains pairs) x y)
walks [] x y = inr (no_walk x y)
walks (t ∷ pairs) x y = elim (pair_cases t) [
  | inr n ↦ decided_by (walk_with (λ u c. later t pairs u c) x y) (other t pairs n x y) (walks pairs x y)
  | inl (p, q, e) ↦ subst (λ u. IsDecided (Walk (Contains (u ∷ pairs)) x y)) (sym e) (decided_by (joined pairs p q x y) (parted pairs p q x y)
      (decided_either (walks pairs x y) (decided_both (decided_either (decided_nat x p) (walks pairs x p)) (decided_either (decided_nat q y) (walks pairs q y)))))
]

-- whether there is a walk
decided_walk : (A : Tuples) → IsListed A → (x y : ℕ) → IsDecided (Walk A x y)
decided_walk A (ts, h) x y = decided_by (walk_with (λ t. (h t).1) x y) (walk_with (λ t. (h t).0) x y) (walks ts x y)

-- a walk begins and ends with a step
begins : {A : Tuples} (x y : ℕ) → Walk A x y → (z : ℕ) × A (x ∷ z ∷ [])
begins x y (last_step s) = (y, s)
begins x y (step {b = z} s w) = (z, s)

ends : {A : Tuples} (x y : ℕ) → Walk A x y → (z : ℕ) × A (z ∷ y ∷ [])
ends x y (last_step s) = (x, s)
ends x y (step s w) = ends _ y w

-- the pair of the first number of one list and the second of another, where a walk leads from one to the other
abbrev Joins : Tuples → List ℕ → List ℕ → Tuples
Joins A s u t = (x z v y : ℕ) × (s ≡ x ∷ z ∷ []) × (u ≡ v ∷ y ∷ []) × Walk A x y × (t ≡ x ∷ y ∷ [])

-- the closure of a listed set
pub listed_closure : (A : Tuples) → IsListed A → IsListed (closure_tuples A)
listed_closure A l =
    listed_by (λ t. (s : List ℕ) × A s × ((u : List ℕ) × A u × Joins A s u t)) (closure_tuples A)
    (λ t (s, a, (u, b, (x, z, v, y, d, e, w, f))). (x, y, w, f))
    (λ t (x, y, w, f). let (z, a) = begins x y w in let (v, b) = ends x y w in (x ∷ z ∷ [], a, (v ∷ y ∷ [], b, (x, z, v, y, refl, refl, w, f))))
    (listed_over A (λ s t. (u : List ℕ) × A u × Joins A s u t) l (λ s a. listed_over A (Joins A s) l (λ u b. one s u (pair_cases s) (pair_cases u))))
  where
    one : (s u : List ℕ) → ((x y : ℕ) × (s ≡ x ∷ y ∷ [])) ⊎ ((x y : ℕ) → s ≡ x ∷ y ∷ [] → ⊥) → ((x y : ℕ) × (u ≡ x ∷ y ∷ [])) ⊎ ((x y : ℕ) → u ≡ x ∷ y ∷ [] → ⊥) → IsListed (Joins A s u)
    one s u (inr n) d = listed_none (Joins A s u) (λ t (x, z, v, y, e, f, w, g). n x z e)
    one s u (inl c) (inr n) = listed_none (Joins A s u) (λ t (x, z, v, y, e, f, w, g). n v y f)
    one s u (inl (x, z, e)) (inl (v, y, f)) = elim (decided_walk A l x y) [
      | inl w ↦ listed_one (Joins A s u) (x ∷ y ∷ []) (x, z, v, y, e, f, w, refl)
          (λ t (x2, z2, v2, y2, e2, f2, w2, g). g ∙ ap (λ k. k ∷ y2 ∷ []) (same_head (sym e2 ∙ e)) ∙ ap (λ k. x ∷ k ∷ []) (same_head (same_rest (sym f2 ∙ f))))
      | inr n ↦ listed_none (Joins A s u)
          (λ t (x2, z2, v2, y2, e2, f2, w2, g). n (subst (λ k. Walk A k y) (same_head (sym e2 ∙ e)) (subst (λ k. Walk A x2 k) (same_head (same_rest (sym f2 ∙ f))) w2)))
    ]
