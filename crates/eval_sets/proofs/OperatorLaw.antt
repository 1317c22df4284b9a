-- What the operators give where columns fit, and where they don't.
use Rattle.std.proofs.Common.{◌≡◌, ◌≢◌, ℕ, List, [], ◌∷◌, ◌++◌, length, inl, inr, refl, sym, ◌∙◌, subst}
use Rattle.core_tree.specs.declared.operators.RelationOp.TheVariants.{Union, Difference, Intersection, Join, Override}
use Rattle.core_meaning.specs.Operators.{combined_tuples, product_tuples}
use Rattle.core_tuples.specs.Sets.{TupleList, In, IsTupleSet, HasJust, IsTurned}
use Rattle.eval_sets.specs.SetOf.{IsSetOf}
use Rattle.eval_sets.specs.Rows.{Begins}
use Rattle.eval_sets.proofs.Members.{has_columns, none_in}

pub just_set : (s : TupleList) (n : ℕ) (P : List ℕ → Type 0) → HasJust s n P → IsSetOf s P
just_set s n P h = record { just = h.just }

nothing_to : (s : TupleList) (P : List ℕ → Type 0) → IsSetOf s (λ _. ⊥) → ((t : List ℕ) → ¬ P t) → IsSetOf s P
nothing_to s P none never = record { just = λ t. ((λ h. absurd ((none.just t).0 h)), (λ p. absurd (never t p))) }

module _ (s a b : TupleList) where
  pub united_left : length a.tuples ≡ 0 → s ≡ b → IsSetOf s (combined_tuples Union (λ t. In t a) (λ t. In t b))
  united_left none same = record { just = λ t. ((λ h. inr (subst (λ (v : TupleList). In t v) same h)), (elim [ inl i ↦ absurd (none_in a t none i) | inr i ↦ subst (λ (v : TupleList). In t v) (sym same) i ])) }

  pub united_right : length b.tuples ≡ 0 → s ≡ a → IsSetOf s (combined_tuples Union (λ t. In t a) (λ t. In t b))
  united_right none same = record { just = λ t. ((λ h. inl (subst (λ (v : TupleList). In t v) same h)), (elim [ inl i ↦ subst (λ (v : TupleList). In t v) (sym same) i | inr i ↦ absurd (none_in b t none i) ])) }

  apart : IsTupleSet a → IsTupleSet b → a.arity ≢ b.arity → (t : List ℕ) → In t a → ¬ In t b
  apart is also other t i j = other (sym (has_columns a t is i) ∙ has_columns b t also j)

  pub lessened_apart : IsTupleSet a → IsTupleSet b → a.arity ≢ b.arity → s ≡ a → IsSetOf s (combined_tuples Difference (λ t. In t a) (λ t. In t b))
  lessened_apart is also other same = record { just = λ t. ((λ h. let i = subst (λ (v : TupleList). In t v) same h in (i, apart is also other t i)), (λ h. subst (λ (v : TupleList). In t v) (sym same) h.0)) }

  pub common_apart : IsTupleSet a → IsTupleSet b → a.arity ≢ b.arity → IsSetOf s (λ _. ⊥) → IsSetOf s (combined_tuples Intersection (λ t. In t a) (λ t. In t b))
  common_apart is also other none = nothing_to s (combined_tuples Intersection (λ t. In t a) (λ t. In t b)) none (λ t h. apart is also other t h.0 h.1)

  pub joined_left : length a.tuples ≡ 0 → IsSetOf s (λ _. ⊥) → IsSetOf s (combined_tuples Join (λ t. In t a) (λ t. In t b))
  joined_left empty none = nothing_to s (combined_tuples Join (λ t. In t a) (λ t. In t b)) none (λ t (r, u, x, i, j, e). none_in a (r ++ x ∷ []) empty i)

  pub joined_right : length b.tuples ≡ 0 → IsSetOf s (λ _. ⊥) → IsSetOf s (combined_tuples Join (λ t. In t a) (λ t. In t b))
  joined_right empty none = nothing_to s (combined_tuples Join (λ t. In t a) (λ t. In t b)) none (λ t (r, u, x, i, j, e). none_in b (x ∷ u) empty j)

  pub paired_left : length a.tuples ≡ 0 → IsSetOf s (λ _. ⊥) → IsSetOf s (product_tuples (λ t. In t a) (λ t. In t b))
  paired_left empty none = nothing_to s (product_tuples (λ t. In t a) (λ t. In t b)) none (λ t (r, u, i, j, e). none_in a r empty i)

  pub paired_right : length b.tuples ≡ 0 → IsSetOf s (λ _. ⊥) → IsSetOf s (product_tuples (λ t. In t a) (λ t. In t b))
  paired_right empty none = nothing_to s (product_tuples (λ t. In t a) (λ t. In t b)) none (λ t (r, u, i, j, e). none_in b u empty j)

  pub overridden_law : (begins kept : TupleList) → IsSetOf begins (λ t. (x : ℕ) × (r : List ℕ) × In (x ∷ r) b × (t ≡ x ∷ [])) → IsSetOf kept (λ t. In t a × (¬ Begins begins t)) → IsSetOf s (combined_tuples Union (λ t. In t b) (λ t. In t kept)) → IsSetOf s (combined_tuples Override (λ t. In t a) (λ t. In t b))
  overridden_law begins kept is_begins is_kept is = record {
    just = λ t. (
      (λ h. elim ((is.just t).0 h) [ inl i ↦ inl i | inr k ↦ let i = (is_kept.just t).0 k in inr (i.0, (λ like. i.1 (begin_of t like))) ]),
      (λ h. (is.just t).1 (elim h [ inl i ↦ inl i | inr i ↦ inr ((is_kept.just t).1 (i.0, (λ begin. i.1 (like_of t begin)))) ])),
    );
  }
    where
      begin_of : (t : List ℕ) → ((x : ℕ) × (r u : List ℕ) × (t ≡ x ∷ r) × In (x ∷ u) b) → Begins begins t
      begin_of t (x, r, u, e, i) = (x, r, e, (is_begins.just (x ∷ [])).1 (x, u, i, refl))

      like_of : (t : List ℕ) → Begins begins t → (x : ℕ) × (r u : List ℕ) × (t ≡ x ∷ r) × In (x ∷ u) b
      like_of t (x, r, e, i) =
          let (y, u, j, f) = (is_begins.just (x ∷ [])).0 i in
          let same : y ≡ x = cc in
          (x, r, u, e, subst (λ (k : ℕ). In (k ∷ u) b) same j)

pub turned_pairs : (s a : TupleList) → HasJust s 2 (IsTurned a) → IsSetOf s (λ t. (x y : ℕ) × In (y ∷ x ∷ []) a × (t ≡ x ∷ y ∷ []))
turned_pairs s a h = record { just = λ t. ((λ i. let (x, y, j, e) = (h.just t).0 i in (y, x, j, e)), (λ (x, y, j, e). (h.just t).1 (y, x, j, e))) }

pub turned_none : (s a : TupleList) → IsTupleSet a → a.arity ≢ 2 → IsSetOf s (λ _. ⊥) → IsSetOf s (λ t. (x y : ℕ) × In (y ∷ x ∷ []) a × (t ≡ x ∷ y ∷ []))
turned_none s a is other none = nothing_to s (λ t. (x y : ℕ) × In (y ∷ x ∷ []) a × (t ≡ x ∷ y ∷ [])) none (λ t (x, y, i, e). other (sym (has_columns a (y ∷ x ∷ []) is i)))
