-- What operators give from sets that are read of what was found.
use Rattle.std.proofs.lemmas.Option.{get_or_from_slice_get}
use Rattle.std.proofs.Common.{◌≡◌, ◌↔◌, ℕ, ◌<◌, List, [], ◌∷◌, refl, sym, ap, ◌∙◌, subst, arith, length, get_or, slice_get, Some, Result, IfOk, Bool, IsTrue, ℤ}
use Rattle.core_tree.specs.declared.operators.RelationOp.{RelationOp}
use Rattle.core_tree.specs.declared.operators.UnaryRelation.{UnaryRelation}
use Rattle.core_tree.specs.declared.operators.Quantity.{Quantity}
use Rattle.core_tree.specs.declared.operators.Comparison.{Comparison}
use Rattle.core_tree.specs.declared.operators.IntOp.{IntOp}
use Rattle.core_meaning.specs.Integers.{wrap, result_of}
use Rattle.core_meaning.specs.World.{InRelation, InUniverse, IsInteger, atom_of}
use Rattle.core_meaning.specs.Operators.{combined_tuples, product_tuples, identity_tuples, unary_tuples, IsCount, IsNumber, IsInside, IsEqual, HasQuantity, Compares}
use Rattle.core_tuples.specs.Sets.{TupleList, In, IsTupleSet}
use Rattle.eval_context.specs.Settings.{SettingValue, world}
use Rattle.eval_sets.specs.SetOf.{IsSetOf}
use Rattle.eval_steps.specs.Judged.{set_in}
use Rattle.eval_steps.specs.declared.held.Held.{Held}

module _ (q s : SettingValue) (es : q ≡ s) where
  pub universe_is : (i : ℕ) (r : TupleList) → IsSetOf r (λ t. (a : ℕ) × InUniverse (world q) i a × (t ≡ a ∷ [])) → IsSetOf r (λ t. (a : ℕ) × InUniverse (world s) i a × (t ≡ a ∷ []))
  universe_is i r h = subst (λ (z : SettingValue). IsSetOf r (λ t. (a : ℕ) × InUniverse (world z) i a × (t ≡ a ∷ []))) es h

  pub none_is : (k i : ℕ) (r : TupleList) → IsSetOf r (λ t. ⊥) → ((t : List ℕ) → ¬ InRelation (world q) k i t) → IsSetOf r (InRelation (world s) k i)
  none_is k i r h none = subst (λ (z : SettingValue). IsSetOf r (InRelation (world z) k i)) es (record { just = λ t. ((λ x. absurd ((h.just t).0 x)), (λ x. absurd (none t x))) })

  pub identity_is : (i : ℕ) (r : TupleList) → IsSetOf r (identity_tuples (world q) i) → IsSetOf r (identity_tuples (world s) i)
  identity_is i r h = subst (λ (z : SettingValue). IsSetOf r (identity_tuples (world z) i)) es h

  pub integers_are : (r : TupleList) → IsSetOf r (λ t. (a : ℕ) × IsInteger (world q) a × (t ≡ a ∷ [])) → IsSetOf r (λ t. (a : ℕ) × IsInteger (world s) a × (t ≡ a ∷ []))
  integers_are r h = subst (λ (z : SettingValue). IsSetOf r (λ t. (a : ℕ) × IsInteger (world z) a × (t ≡ a ∷ []))) es h

  pub integer_is : (n : ℤ) (r : TupleList) → IsSetOf r (λ t. t ≡ atom_of (world q) n ∷ []) → IsSetOf r (λ t. t ≡ atom_of (world s) n ∷ [])
  integer_is n r h = subst (λ (z : SettingValue). IsSetOf r (λ t. t ≡ atom_of (world z) n ∷ [])) es h

  pub wrapped_is : (n m : ℤ) (r : TupleList) → m ≡ n → IsSetOf r (λ t. t ≡ atom_of (world q) (wrap (world q).bits n) ∷ []) → IsSetOf r (λ t. t ≡ atom_of (world s) (wrap (world s).bits m) ∷ [])
  wrapped_is n m r e h = subst (λ (z : SettingValue). IsSetOf r (λ t. t ≡ atom_of (world z) (wrap (world z).bits m) ∷ [])) es (subst (λ (z : ℤ). IsSetOf r (λ t. t ≡ atom_of (world q) (wrap (world q).bits z) ∷ [])) (sym e) h)

  module _ (x : TupleList) (a : Held) (ex : x ≡ set_in a) where
    pub transformed_is : (op : UnaryRelation) (i : ℕ) (r : TupleList) → IsSetOf r (unary_tuples (world q) i op (λ t. In t x)) → IsSetOf r (unary_tuples (world s) i op (λ t. In t (set_in a)))
    transformed_is op i r h = subst (λ (z : SettingValue). IsSetOf r (unary_tuples (world z) i op (λ t. In t (set_in a)))) es (subst (λ (y : TupleList). IsSetOf r (unary_tuples (world q) i op (λ t. In t y))) ex h)

    pub counted_is : (r : TupleList) → IsSetOf r (λ t. (n : ℤ) × IsCount (world q) (λ u. In u x) n × (t ≡ atom_of (world q) n ∷ [])) → IsSetOf r (λ t. (n : ℤ) × IsCount (world s) (λ u. In u (set_in a)) n × (t ≡ atom_of (world s) n ∷ []))
    counted_is r h = subst (λ (z : SettingValue). IsSetOf r (λ t. (n : ℤ) × IsCount (world z) (λ u. In u (set_in a)) n × (t ≡ atom_of (world z) n ∷ []))) es (subst (λ (y : TupleList). IsSetOf r (λ t. (n : ℤ) × IsCount (world q) (λ u. In u y) n × (t ≡ atom_of (world q) n ∷ []))) ex h)

    module _ (y : TupleList) (b : Held) (ey : y ≡ set_in b) where
      pub calculated_is : (op : IntOp) (r : TupleList) → IsSetOf r (λ t. (n m : ℤ) × IsNumber (world q) (λ u. In u x) n × IsNumber (world q) (λ u. In u y) m × (t ≡ atom_of (world q) (wrap (world q).bits (result_of op n m)) ∷ [])) → IsSetOf r (λ t. (n m : ℤ) × IsNumber (world s) (λ u. In u (set_in a)) n × IsNumber (world s) (λ u. In u (set_in b)) m × (t ≡ atom_of (world s) (wrap (world s).bits (result_of op n m)) ∷ []))
      calculated_is op r h =
          subst (λ (z : SettingValue). IsSetOf r (λ t. (n m : ℤ) × IsNumber (world z) (λ u. In u (set_in a)) n × IsNumber (world z) (λ u. In u (set_in b)) m × (t ≡ atom_of (world z) (wrap (world z).bits (result_of op n m)) ∷ []))) es
          (subst (λ (v : TupleList). IsSetOf r (λ t. (n m : ℤ) × IsNumber (world q) (λ u. In u (set_in a)) n × IsNumber (world q) (λ u. In u v) m × (t ≡ atom_of (world q) (wrap (world q).bits (result_of op n m)) ∷ []))) ey
          (subst (λ (v : TupleList). IsSetOf r (λ t. (n m : ℤ) × IsNumber (world q) (λ u. In u v) n × IsNumber (world q) (λ u. In u y) m × (t ≡ atom_of (world q) (wrap (world q).bits (result_of op n m)) ∷ []))) ex h))

      pub compared_is : (op : Comparison) (E : Type 0) (r : Result Bool E) → IfOk r (λ c. IsTrue c ↔ Compares (world q) op (λ t. In t x) (λ t. In t y)) → IfOk r (λ c. IsTrue c ↔ Compares (world s) op (λ t. In t (set_in a)) (λ t. In t (set_in b)))
      compared_is op E r h =
          subst (λ (z : SettingValue). IfOk r (λ c. IsTrue c ↔ Compares (world z) op (λ t. In t (set_in a)) (λ t. In t (set_in b)))) es
          (subst (λ (v : TupleList). IfOk r (λ c. IsTrue c ↔ Compares (world q) op (λ t. In t (set_in a)) (λ t. In t v))) ey
          (subst (λ (v : TupleList). IfOk r (λ c. IsTrue c ↔ Compares (world q) op (λ t. In t v) (λ t. In t y))) ex h))

module _ (x : TupleList) (a : Held) (ex : x ≡ set_in a) where
  pub has_is : (q : Quantity) (r : Bool) → IsTrue r ↔ HasQuantity q (λ t. In t x) → IsTrue r ↔ HasQuantity q (λ t. In t (set_in a))
  has_is q r h = subst (λ (v : TupleList). IsTrue r ↔ HasQuantity q (λ t. In t v)) ex h

  module _ (y : TupleList) (b : Held) (ey : y ≡ set_in b) where
    pub combined_is : (op : RelationOp) (r : TupleList) → IsSetOf r (combined_tuples op (λ t. In t x) (λ t. In t y)) → IsSetOf r (combined_tuples op (λ t. In t (set_in a)) (λ t. In t (set_in b)))
    combined_is op r h = subst (λ (v : TupleList). IsSetOf r (combined_tuples op (λ t. In t (set_in a)) (λ t. In t v))) ey (subst (λ (v : TupleList). IsSetOf r (combined_tuples op (λ t. In t v) (λ t. In t y))) ex h)

    pub multiplied_is : (r : TupleList) → IsSetOf r (product_tuples (λ t. In t x) (λ t. In t y)) → IsSetOf r (product_tuples (λ t. In t (set_in a)) (λ t. In t (set_in b)))
    multiplied_is r h = subst (λ (v : TupleList). IsSetOf r (product_tuples (λ t. In t (set_in a)) (λ t. In t v))) ey (subst (λ (v : TupleList). IsSetOf r (product_tuples (λ t. In t v) (λ t. In t y))) ex h)

    pub inside_is : (r : Bool) → IsTrue r ↔ IsInside (λ t. In t x) (λ t. In t y) → IsTrue r ↔ IsInside (λ t. In t (set_in a)) (λ t. In t (set_in b))
    inside_is r h = subst (λ (v : TupleList). IsTrue r ↔ IsInside (λ t. In t (set_in a)) (λ t. In t v)) ey (subst (λ (v : TupleList). IsTrue r ↔ IsInside (λ t. In t v) (λ t. In t y)) ex h)

    pub equal_is : (r : Bool) → IsTrue r ↔ IsEqual (λ t. In t x) (λ t. In t y) → IsTrue r ↔ IsEqual (λ t. In t (set_in a)) (λ t. In t (set_in b))
    equal_is r h = subst (λ (v : TupleList). IsTrue r ↔ IsEqual (λ t. In t (set_in a)) (λ t. In t v)) ey (subst (λ (v : TupleList). IsTrue r ↔ IsEqual (λ t. In t v) (λ t. In t y)) ex h)

-- the tuple at a place of a set of one column
pub single_at : (set : TupleList) (k : ℕ) (t ns : List ℕ) → IsTupleSet set → set.arity ≡ 1 → k < length set.tuples → slice_get set.tuples k ≡ Some t → ns ≡ t → slice_get set.tuples k ≡ Some (get_or ns 0 0 ∷ [])
single_at set k t ns is one lt at same =
    let wide : length t ≡ set.arity = subst (λ (v : List ℕ). length v ≡ set.arity) (get_or_from_slice_get set.tuples k t t at) (is.columns k t lt) in
    at ∙ ap Some (lone_number t (wide ∙ one) ∙ ap (λ (u : List ℕ). get_or u 0 0 ∷ []) (sym same))
  where
    lone_number : (u : List ℕ) → length u ≡ 1 → u ≡ get_or u 0 0 ∷ []
    lone_number [] e = absurd (omega arith)
    lone_number (x ∷ []) e = refl
    lone_number (x ∷ y ∷ u) e = absurd (omega arith)
