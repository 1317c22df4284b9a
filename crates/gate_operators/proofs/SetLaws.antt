-- What the operators on matrices say, in the words of the language's meaning.
use Rattle.std.proofs.Common.{◌≡◌, ◌↔◌, ◌⊎◌, ℕ, Bool, true, false, not, ◌&&◌, ◌||◌, List, [], ◌∷◌, refl, sym, ◌∙◌, inl, inr}
use Rattle.std.proofs.lemmas.Bool.{false≢true}
use Rattle.gate_trait.specs.declared.node.Node.{Node}
use Rattle.core_tree.specs.declared.operators.RelationOp.TheVariants.{Union, Difference, Intersection, Join, Override, LeftRestrict, RightRestrict}
use Rattle.core_meaning.specs.Operators.{Tuples, Walk, last_step, step, combined_tuples, product_tuples, closure_tuples}
use Rattle.gate_matrix.specs.Matrices.{MatrixEntries, truth}
use Rattle.gate_matrix.specs.Joined.{IsJoined, IsPaired, IsTurned}
use Rattle.gate_closure.specs.Walks.{IsWalk, IsReached}
use Rattle.gate_closure.specs.Filters.{IsOverridden, IsLeftRestricted, IsRightRestricted}
use Rattle.gate_operators.specs.Sets.{MeansSet, set_of, turned}

-- ---- truth values

or_means : (v w : Bool) → (v || w ≡ true) ↔ ((v ≡ true) ⊎ (w ≡ true))
or_means true w = ((λ h. inl refl), (λ h. refl))
or_means false w = ((λ h. inr h), (λ h. elim h [ inl e ↦ absurd (false≢true e) | inr e ↦ e ]))

and_means : (v w : Bool) → (v && w ≡ true) ↔ ((v ≡ true) × (w ≡ true))
and_means true w = ((λ h. (refl, h)), (λ h. h.1))
and_means false w = ((λ h. absurd (false≢true h)), (λ h. absurd (false≢true h.0)))

not_means : (v : Bool) → (not v ≡ true) ↔ (¬ (v ≡ true))
not_means true = ((λ h e. false≢true h), (λ h. absurd (h refl)))
not_means false = ((λ h e. false≢true e), (λ h. refl))

by_equal : (v w : Bool) (P : Type 0) → v ≡ w → (w ≡ true) ↔ P → (v ≡ true) ↔ P
by_equal v w P e h = ((λ t. h.0 (sym e ∙ t)), (λ p. e ∙ h.1 p))

-- ---- operators

pub union_law : (v after : Node → Bool) (a b m : MatrixEntries) → ((t : List ℕ) → truth after m t ≡ truth v a t || truth v b t) → MeansSet after m (combined_tuples Union (set_of v a) (set_of v b))
union_law v after a b m e = λ t. by_equal _ _ _ (e t) (or_means (truth v a t) (truth v b t))

pub intersection_law : (v after : Node → Bool) (a b m : MatrixEntries) → ((t : List ℕ) → truth after m t ≡ truth v a t && truth v b t) → MeansSet after m (combined_tuples Intersection (set_of v a) (set_of v b))
intersection_law v after a b m e = λ t. by_equal _ _ _ (e t) (and_means (truth v a t) (truth v b t))

pub difference_law : (v after : Node → Bool) (a b m : MatrixEntries) → ((t : List ℕ) → truth after m t ≡ truth v a t && not (truth v b t)) → MeansSet after m (combined_tuples Difference (set_of v a) (set_of v b))
difference_law v after a b m e = λ t.
    let both = and_means (truth v a t) (not (truth v b t)) in
    let out = not_means (truth v b t) in
    by_equal _ _ _ (e t) ((λ h. let p = both.0 h in (p.0, out.0 p.1)), (λ h. both.1 (h.0, out.1 h.1)))

pub join_law : (v after : Node → Bool) (a b m : MatrixEntries) → ((t : List ℕ) → (truth after m t ≡ true) ↔ IsJoined v a b t) → MeansSet after m (combined_tuples Join (set_of v a) (set_of v b))
join_law v after a b m h = λ t. (
  (λ e. let j = (h t).0 e in (j.s, j.u, j.c, j.left, j.right, j.is)),
  (λ q. (h t).1 (record { s = q.0; u = q.1; c = q.2; is = q.5; left = q.3; right = q.4 })),
)

pub product_law : (v after : Node → Bool) (a b m : MatrixEntries) → ((t : List ℕ) → (truth after m t ≡ true) ↔ IsPaired v a b t) → MeansSet after m (product_tuples (set_of v a) (set_of v b))
product_law v after a b m h = λ t. (
  (λ e. let j = (h t).0 e in (j.s, j.u, j.left, j.right, j.is)),
  (λ q. (h t).1 (record { s = q.0; u = q.1; is = q.4; left = q.2; right = q.3 })),
)

pub override_law : (v after : Node → Bool) (a b m : MatrixEntries) → ((t : List ℕ) → (truth after m t ≡ true) ↔ IsOverridden v a b t) → MeansSet after m (combined_tuples Override (set_of v a) (set_of v b))
override_law v after a b m h = λ t. (
  (λ e. elim ((h t).0 e) [
    | inl there ↦ inl there
    | inr rest ↦ inr (rest.0, (λ q. rest.1 q.0 q.1 q.2 q.3 q.4))
  ]),
  (λ q. (h t).1 (elim q [
    | inl there ↦ inl there
    | inr rest ↦ inr (rest.0, (λ x s u e over. rest.1 (x, s, u, e, over)))
  ])),
)

pub left_law : (v after : Node → Bool) (a b m : MatrixEntries) → ((t : List ℕ) → (truth after m t ≡ true) ↔ IsLeftRestricted v a b t) → MeansSet after m (combined_tuples LeftRestrict (set_of v a) (set_of v b))
left_law v after a b m h = h

pub right_law : (v after : Node → Bool) (a b m : MatrixEntries) → ((t : List ℕ) → (truth after m t ≡ true) ↔ IsRightRestricted v a b t) → MeansSet after m (combined_tuples RightRestrict (set_of v a) (set_of v b))
right_law v after a b m h = h

pub turned_law : (v after : Node → Bool) (a m : MatrixEntries) → ((t : List ℕ) → (truth after m t ≡ true) ↔ IsTurned v a t) → MeansSet after m (turned (set_of v a))
turned_law v after a m h = λ t. (
  (λ e. let j = (h t).0 e in (j.y, j.x, j.there, j.is)),
  (λ q. (h t).1 (record { x = q.1; y = q.0; is = q.3; there = q.2 })),
)

-- ---- walks

from_walk : (v : Node → Bool) (a : MatrixEntries) (x : ℕ) (inner : List ℕ) (y : ℕ) → IsWalk v a x inner y → Walk (set_of v a) x y
from_walk v a x [] y w = last_step w
from_walk v a x (z ∷ inner) y w = step w.0 (from_walk v a z inner y w.1)

to_walk : (v : Node → Bool) (a : MatrixEntries) (x y : ℕ) → Walk (set_of v a) x y → (inner : List ℕ) × IsWalk v a x inner y
to_walk v a x y (last_step s) = ([], s)
to_walk v a x y (step {b = z} s w) = let r = to_walk v a z y w in (z ∷ r.0, (s, r.1))

pub closure_law : (v after : Node → Bool) (a m : MatrixEntries) → ((t : List ℕ) → (truth after m t ≡ true) ↔ IsReached v a t) → MeansSet after m (closure_tuples (set_of v a))
closure_law v after a m h = λ t. (
  (λ e. let r = (h t).0 e in (r.x, r.y, from_walk v a r.x r.inner r.y r.walk, r.is)),
  (λ q. (h t).1 (let w = to_walk v a q.0 q.1 q.2 in record { x = q.0; y = q.1; inner = w.0; is = q.3; walk = w.1 })),
)
