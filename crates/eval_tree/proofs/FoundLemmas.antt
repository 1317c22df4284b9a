-- Lemmas on what the operators give from what their operands have.
use Rattle.std.proofs.Common.{◌≡◌, ◌⊎◌, ◌↔◌, ℕ, [], ◌∷◌, refl, inl, inr, Result, Ok, Err, IfOk, Bool, true, false, not, IsTrue, ℤ}
use Rattle.core_tree.specs.declared.operators.RelationOp.{RelationOp}
use Rattle.core_tree.specs.declared.operators.UnaryRelation.{UnaryRelation}
use Rattle.core_tree.specs.declared.operators.Quantity.{Quantity}
use Rattle.core_tree.specs.declared.operators.Comparison.{Comparison}
use Rattle.core_tree.specs.declared.operators.IntOp.{IntOp}
use Rattle.core_meaning.specs.Integers.{wrap, result_of}
use Rattle.core_meaning.specs.World.{World, atom_of}
use Rattle.core_meaning.specs.Operators.{Tuples, combined_tuples, product_tuples, unary_tuples, IsCount, IsNumber, IsInside, IsEqual, HasQuantity, Compares}
use Rattle.core_window.proofs.SameLemmas.{same_trans, combined_same, product_same, unary_same, inside_same, equal_same, quantity_same, count_same, number_same, compare_same}
use Rattle.core_tuples.specs.Sets.{TupleList, In}
use Rattle.eval_sets.specs.SetOf.{IsSetOf}
use Rattle.eval_steps.specs.Judged.{IsFound, set_in, Says}
use Rattle.eval_steps.specs.declared.held.Held.{Held}
use Rattle.core_window.specs.Repeats.{SameTuples}

pub if_ok_to : {X E : Type 0} (P Q : X → Type 0) → ((x : X) → P x → Q x) → (r : Result X E) → IfOk r P → IfOk r Q
if_ok_to P Q f (Ok x) h = f x h
if_ok_to P Q f (Err e) h = tt

pub set_to : (s : TupleList) (A B : Tuples) → SameTuples A B → IsSetOf s A → IsSetOf s B
set_to s A B same h = record { just = λ t. same_trans (h.just t) (same t) }

module _ (E : Type 0) (r : Result Held E) (x : Held) (A : Tuples) (hx : IsFound x A) where
  pub unary_found : (w : World) (i : ℕ) (op : UnaryRelation) → IfOk r (λ h. IsFound h (unary_tuples w i op (λ t. In t (set_in x)))) → IfOk r (λ h. IsFound h (unary_tuples w i op A))
  unary_found w i op k = if_ok_to _ (λ h. IsFound h (unary_tuples w i op A)) (λ h f. set_to (set_in h) _ _ (unary_same w i i (λ a. ((λ y. y), (λ y. y))) op (λ t. In t (set_in x)) A hx.just) f) r k

  pub count_found : (w : World) → IfOk r (λ h. IsFound h (λ t. (n : ℤ) × IsCount w (λ u. In u (set_in x)) n × (t ≡ atom_of w n ∷ []))) → IfOk r (λ h. IsFound h (λ t. (n : ℤ) × IsCount w A n × (t ≡ atom_of w n ∷ [])))
  count_found w k =
      let same = count_same w (λ t. In t (set_in x)) A hx.just in
      if_ok_to _ (λ h. IsFound h (λ t. (n : ℤ) × IsCount w A n × (t ≡ atom_of w n ∷ []))) (λ h f. set_to (set_in h) _ _ (λ t. ((λ (n, c, e). (n, (same n).0 c, e)), (λ (n, c, e). (n, (same n).1 c, e)))) f) r k

  module _ (y : Held) (B : Tuples) (hy : IsFound y B) where
    pub combine_found : (op : RelationOp) → IfOk r (λ h. IsFound h (combined_tuples op (λ t. In t (set_in x)) (λ t. In t (set_in y)))) → IfOk r (λ h. IsFound h (combined_tuples op A B))
    combine_found op k = if_ok_to _ (λ h. IsFound h (combined_tuples op A B)) (λ h f. set_to (set_in h) _ _ (combined_same op (λ t. In t (set_in x)) A (λ t. In t (set_in y)) B hx.just hy.just) f) r k

    pub product_found : IfOk r (λ h. IsFound h (product_tuples (λ t. In t (set_in x)) (λ t. In t (set_in y)))) → IfOk r (λ h. IsFound h (product_tuples A B))
    product_found k = if_ok_to _ (λ h. IsFound h (product_tuples A B)) (λ h f. set_to (set_in h) _ _ (product_same (λ t. In t (set_in x)) A (λ t. In t (set_in y)) B hx.just hy.just) f) r k

    pub arithmetic_found : (w : World) (op : IntOp) → IfOk r (λ h. IsFound h (λ t. (n m : ℤ) × IsNumber w (λ u. In u (set_in x)) n × IsNumber w (λ u. In u (set_in y)) m × (t ≡ atom_of w (wrap w.bits (result_of op n m)) ∷ []))) → IfOk r (λ h. IsFound h (λ t. (n m : ℤ) × IsNumber w A n × IsNumber w B m × (t ≡ atom_of w (wrap w.bits (result_of op n m)) ∷ [])))
    arithmetic_found w op k =
        let u = number_same w (λ t. In t (set_in x)) A hx.just in
        let v = number_same w (λ t. In t (set_in y)) B hy.just in
        if_ok_to _ (λ h. IsFound h (λ t. (n m : ℤ) × IsNumber w A n × IsNumber w B m × (t ≡ atom_of w (wrap w.bits (result_of op n m)) ∷ [])))
        (λ h f. set_to (set_in h) _ _ (λ t. ((λ (n, m, c, d, e). (n, m, (u n).0 c, (v m).0 d, e)), (λ (n, m, c, d, e). (n, m, (u n).1 c, (v m).1 d, e)))) f) r k

module _ (x : Held) (A : Tuples) (hx : IsFound x A) where
  pub quantity_true : (q : Quantity) (b : Bool) → IsTrue b ↔ HasQuantity q (λ t. In t (set_in x)) → IsTrue b ↔ HasQuantity q A
  quantity_true q b k = same_trans k (quantity_same q (λ t. In t (set_in x)) A hx.just)

  pub number_of_found : (w : World) (n : ℤ) → IsNumber w (λ t. In t (set_in x)) n → IsNumber w A n
  number_of_found w n k = (number_same w (λ t. In t (set_in x)) A hx.just n).0 k

  module _ (y : Held) (B : Tuples) (hy : IsFound y B) where
    pub inside_true : (b : Bool) → IsTrue b ↔ IsInside (λ t. In t (set_in x)) (λ t. In t (set_in y)) → IsTrue b ↔ IsInside A B
    inside_true b k = same_trans k (inside_same (λ t. In t (set_in x)) A (λ t. In t (set_in y)) B hx.just hy.just)

    pub equal_true : (b : Bool) → IsTrue b ↔ IsEqual (λ t. In t (set_in x)) (λ t. In t (set_in y)) → IsTrue b ↔ IsEqual A B
    equal_true b k = same_trans k (equal_same (λ t. In t (set_in x)) A (λ t. In t (set_in y)) B hx.just hy.just)

    pub compare_true : (w : World) (op : Comparison) (E : Type 0) (r : Result Bool E) → IfOk r (λ b. IsTrue b ↔ Compares w op (λ t. In t (set_in x)) (λ t. In t (set_in y))) → IfOk r (λ b. IsTrue b ↔ Compares w op A B)
    compare_true w op E r k = if_ok_to _ (λ b. IsTrue b ↔ Compares w op A B) (λ b f. same_trans f (compare_same w op (λ t. In t (set_in x)) A (λ t. In t (set_in y)) B hx.just hy.just)) r k

-- a conditional is the part that its formula chooses
pub chosen_yes : (E : Type 0) (r : Result Held E) (F : Type 0) (A B : Tuples) → F → IfOk r (λ h. IsFound h A) → IfOk r (λ h. IsFound h (λ t. (F × A t) ⊎ ((¬ F) × B t)))
chosen_yes E r F A B f k = if_ok_to _ (λ h. IsFound h (λ t. (F × A t) ⊎ ((¬ F) × B t))) (λ h s. set_to (set_in h) A _ (λ t. ((λ a. inl (f, a)), (elim [ inl x ↦ x.1 | inr x ↦ absurd (x.0 f) ]))) s) r k

pub chosen_no : (E : Type 0) (r : Result Held E) (F : Type 0) (A B : Tuples) → ¬ F → IfOk r (λ h. IsFound h B) → IfOk r (λ h. IsFound h (λ t. (F × A t) ⊎ ((¬ F) × B t)))
chosen_no E r F A B f k = if_ok_to _ (λ h. IsFound h (λ t. (F × A t) ⊎ ((¬ F) × B t))) (λ h s. set_to (set_in h) B _ (λ t. ((λ b. inr (f, b)), (elim [ inl x ↦ absurd (f x.0) | inr x ↦ x.1 ]))) s) r k

-- what a test says of its fact
pub said_true : {P : Type 0} (b : Bool) → IsTrue b ↔ P → b ≡ true → P
said_true b h e = h.0 e

pub said_false : {P : Type 0} (b : Bool) → IsTrue b ↔ P → b ≡ false → ¬ P
said_false b h e p = let t = h.1 p in cc

pub true_holds : {P : Type 0} → P → IsTrue true ↔ P
true_holds p = ((λ _. p), (λ _. refl))

pub false_fails : {P : Type 0} → ¬ P → IsTrue false ↔ P
false_fails n = ((λ e. absurd cc), (λ p. absurd (n p)))

-- a test decides its fact
pub decided : {P : Type 0} (b : Bool) → IsTrue b ↔ P → P ⊎ (¬ P)
decided true h = inl (h.0 refl)
decided false h = inr (λ p. let e = h.1 p in cc)

-- the negation of a test says the negation
pub not_said : {P : Type 0} (b : Bool) → IsTrue b ↔ P → IsTrue (not b) ↔ (¬ P)
not_said true h = ((λ e. absurd cc), (λ n. absurd (n (h.0 refl))))
not_said false h = ((λ e p. let x = h.1 p in cc), (λ n. refl))

-- what is said of a test with the same sense
pub says_said : {P : Type 0} (sense b r : Bool) → IsTrue b ↔ P → IsTrue r ↔ Says sense (IsTrue b) → IsTrue r ↔ Says sense P
says_said true b r h k = same_trans k h
says_said false b r h k = same_trans k ((λ n p. n (h.1 p)), (λ n e. n (h.0 e)))

-- three facts that are the same
pub three_same : {P Q R S T U : Type 0} → P ↔ Q → R ↔ S → T ↔ U → (P × R × T) ↔ (Q × S × U)
three_same f g h = ((λ (x, y, z). (f.0 x, g.0 y, h.0 z)), (λ (x, y, z). (f.1 x, g.1 y, h.1 z)))
