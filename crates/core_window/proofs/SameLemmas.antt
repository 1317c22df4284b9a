-- Each operator on sets of tuples keeps that they are the same.
use Rattle.std.specs.Prelude.{◌⊎◌, ◌↔◌, ℕ, List, [], ◌∷◌, ◌++◌, ℤ}
use Rattle.std.proofs.Common.{inl, inr}
use Rattle.core_tree.specs.declared.operators.Multiplicity.{Multiplicity}
use Rattle.core_tree.specs.declared.operators.Multiplicity.TheVariants.{Set, One, Lone, Some}
use Rattle.core_tree.specs.declared.operators.Quantity.{Quantity}
use Rattle.core_tree.specs.declared.operators.Quantity.TheVariants.{Some as SomeOf, No as NoneOf, One as OneOf, Lone as LoneOf}
use Rattle.core_tree.specs.declared.operators.Comparison.{Comparison}
use Rattle.core_tree.specs.declared.operators.Comparison.TheVariants.{Equal, Less, AtMost, Greater, AtLeast}
use Rattle.core_tree.specs.declared.operators.Connective.{Connective}
use Rattle.core_tree.specs.declared.operators.Connective.TheVariants.{Or, Implies, Iff}
use Rattle.core_tree.specs.declared.operators.RelationOp.{RelationOp}
use Rattle.core_tree.specs.declared.operators.RelationOp.TheVariants.{Union, Difference, Intersection, Join, Override, LeftRestrict, RightRestrict}
use Rattle.core_tree.specs.declared.operators.UnaryRelation.{UnaryRelation}
use Rattle.core_tree.specs.declared.operators.UnaryRelation.TheVariants.{Transpose, Closure, ReflexiveClosure}
use Rattle.core_meaning.specs.World.{World, InUniverse}
use Rattle.core_meaning.specs.Operators.{Tuples, IsListOf, Walk, last_step, step, combined_tuples, product_tuples, identity_tuples, closure_tuples, unary_tuples, IsInside, IsEqual, HasSome, IsLone, HasQuantity, HasMultiplicity, Quantified, IsCount, IsNumber, IsSumOver, IsLess, Compares, IsImplied, Connects, Chooses}
use Rattle.core_window.specs.Repeats.{SameTuples}

pub turn : {P Q : Type 0} → P ↔ Q → Q ↔ P
turn h = (h.1, h.0)

pub same_trans : {P Q R : Type 0} → P ↔ Q → Q ↔ R → P ↔ R
same_trans f g = ((λ x. g.0 (f.0 x)), (λ x. f.1 (g.1 x)))

pub both_same : {P Q R S : Type 0} → P ↔ Q → R ↔ S → (P × R) ↔ (Q × S)
both_same f g = ((λ x. (f.0 x.0, g.0 x.1)), (λ x. (f.1 x.0, g.1 x.1)))

pub either_same : {P Q R S : Type 0} → P ↔ Q → R ↔ S → (P ⊎ R) ↔ (Q ⊎ S)
either_same f g = ((elim [ inl x ↦ inl (f.0 x) | inr x ↦ inr (g.0 x) ]), (elim [ inl x ↦ inl (f.1 x) | inr x ↦ inr (g.1 x) ]))

pub not_same : {P Q : Type 0} → P ↔ Q → (¬ P) ↔ (¬ Q)
not_same f = ((λ n q. n (f.1 q)), (λ n p. n (f.0 p)))

list_of : {X : Type 0} {A B : X → Type 0} → ((x : X) → A x ↔ B x) → (xs : List X) → IsListOf A xs → IsListOf B xs
list_of same xs h = record { distinct = h.distinct; all_and_only = λ x. ((λ c. (same x).0 ((h.all_and_only x).0 c)), (λ b. (h.all_and_only x).1 ((same x).1 b))) }

walk_to : {A B : Tuples} → ((t : List ℕ) → A t → B t) → (a b : ℕ) → Walk A a b → Walk B a b
walk_to f a b (last_step s) = last_step (f _ s)
walk_to f a b (step s w) = step (f _ s) (walk_to f _ _ w)

pub walk_same : {A B : Tuples} → SameTuples A B → (a b : ℕ) → Walk A a b ↔ Walk B a b
walk_same same a b = (walk_to (λ t. (same t).0) a b, walk_to (λ t. (same t).1) a b)

pub combined_same : (op : RelationOp) (A B C D : Tuples) → SameTuples A B → SameTuples C D → SameTuples (combined_tuples op A C) (combined_tuples op B D)
combined_same Union A B C D u v t = either_same (u t) (v t)
combined_same Difference A B C D u v t = both_same (u t) (not_same (v t))
combined_same Intersection A B C D u v t = both_same (u t) (v t)
combined_same Join A B C D u v t = (
  (λ (s, r, x, k, l, e). (s, r, x, (u (s ++ x ∷ [])).0 k, (v (x ∷ r)).0 l, e)),
  (λ (s, r, x, k, l, e). (s, r, x, (u (s ++ x ∷ [])).1 k, (v (x ∷ r)).1 l, e)),
)
combined_same Override A B C D u v t = either_same (v t) (both_same (u t) (not_same (
  (λ (x, r, s, e, k). (x, r, s, e, (v (x ∷ s)).0 k)),
  (λ (x, r, s, e, k). (x, r, s, e, (v (x ∷ s)).1 k)),
)))
combined_same LeftRestrict A B C D u v t = both_same (v t) (
  (λ (x, r, e, k). (x, r, e, (u (x ∷ [])).0 k)),
  (λ (x, r, e, k). (x, r, e, (u (x ∷ [])).1 k)),
)
combined_same RightRestrict A B C D u v t = both_same (u t) (
  (λ (r, x, e, k). (r, x, e, (v (x ∷ [])).0 k)),
  (λ (r, x, e, k). (r, x, e, (v (x ∷ [])).1 k)),
)

pub product_same : (A B C D : Tuples) → SameTuples A B → SameTuples C D → SameTuples (product_tuples A C) (product_tuples B D)
product_same A B C D u v t = (
  (λ (s, r, k, l, e). (s, r, (u s).0 k, (v r).0 l, e)),
  (λ (s, r, k, l, e). (s, r, (u s).1 k, (v r).1 l, e)),
)

pub closure_same : (A B : Tuples) → SameTuples A B → SameTuples (closure_tuples A) (closure_tuples B)
closure_same A B u t = (
  (λ (x, y, k, e). (x, y, (walk_same u x y).0 k, e)),
  (λ (x, y, k, e). (x, y, (walk_same u x y).1 k, e)),
)

pub identity_same : (w : World) (i j : ℕ) → ((a : ℕ) → InUniverse w i a ↔ InUniverse w j a) → SameTuples (identity_tuples w i) (identity_tuples w j)
identity_same w i j same t = ((λ (a, u, e). (a, (same a).0 u, e)), (λ (a, u, e). (a, (same a).1 u, e)))

pub unary_same : (w : World) (i j : ℕ) → ((a : ℕ) → InUniverse w i a ↔ InUniverse w j a) → (op : UnaryRelation) (A B : Tuples) → SameTuples A B → SameTuples (unary_tuples w i op A) (unary_tuples w j op B)
unary_same w i j same Transpose A B u t = (
  (λ (x, y, k, e). (x, y, (u (y ∷ x ∷ [])).0 k, e)),
  (λ (x, y, k, e). (x, y, (u (y ∷ x ∷ [])).1 k, e)),
)
unary_same w i j same Closure A B u t = closure_same A B u t
unary_same w i j same ReflexiveClosure A B u t = either_same (closure_same A B u t) (identity_same w i j same t)

pub inside_same : (A B C D : Tuples) → SameTuples A B → SameTuples C D → IsInside A C ↔ IsInside B D
inside_same A B C D u v = ((λ k t x. (v t).0 (k t ((u t).1 x))), (λ k t x. (v t).1 (k t ((u t).0 x))))

pub equal_same : (A B C D : Tuples) → SameTuples A B → SameTuples C D → IsEqual A C ↔ IsEqual B D
equal_same A B C D u v = both_same (inside_same A B C D u v) (inside_same C D A B v u)

pub some_same : (A B : Tuples) → SameTuples A B → HasSome A ↔ HasSome B
some_same A B u = ((λ (t, k). (t, (u t).0 k)), (λ (t, k). (t, (u t).1 k)))

pub lone_same : (A B : Tuples) → SameTuples A B → IsLone A ↔ IsLone B
lone_same A B u = ((λ k s t x y. k s t ((u s).1 x) ((u t).1 y)), (λ k s t x y. k s t ((u s).0 x) ((u t).0 y)))

pub quantity_same : (q : Quantity) (A B : Tuples) → SameTuples A B → HasQuantity q A ↔ HasQuantity q B
quantity_same SomeOf A B u = some_same A B u
quantity_same NoneOf A B u = not_same (some_same A B u)
quantity_same OneOf A B u = both_same (some_same A B u) (lone_same A B u)
quantity_same LoneOf A B u = lone_same A B u

pub multiplicity_same : (m : Multiplicity) (A B : Tuples) → SameTuples A B → HasMultiplicity m A ↔ HasMultiplicity m B
multiplicity_same Set A B u = ((λ x. x), (λ x. x))
multiplicity_same One A B u = both_same (some_same A B u) (lone_same A B u)
multiplicity_same Lone A B u = lone_same A B u
multiplicity_same Some A B u = some_same A B u

pub quantified_same : (q : Quantity) (P Q : Type 0) (A B : Tuples) → P ↔ Q → SameTuples A B → Quantified q P A ↔ Quantified q Q B
quantified_same SomeOf P Q A B f u = not_same f
quantified_same NoneOf P Q A B f u = f
quantified_same OneOf P Q A B f u = both_same (not_same f) (lone_same A B u)
quantified_same LoneOf P Q A B f u = lone_same A B u

module _ (w : World) where
  pub count_same : (A B : Tuples) → SameTuples A B → (n : ℤ) → IsCount w A n ↔ IsCount w B n
  count_same A B same n = ((λ (ts, l, e). (ts, list_of same ts l, e)), (λ (ts, l, e). (ts, list_of (λ t. turn (same t)) ts l, e)))

  number_to : (A B : Tuples) → SameTuples A B → (n : ℤ) → IsNumber w A n → IsNumber w B n
  number_to A B same n (members, l, e) = (members, list_of (λ a. ((λ x. (x.0, (same (a ∷ [])).0 x.1)), (λ x. (x.0, (same (a ∷ [])).1 x.1)))) members l, e)

  pub number_same : (A B : Tuples) → SameTuples A B → (n : ℤ) → IsNumber w A n ↔ IsNumber w B n
  number_same A B same n = (number_to A B same n, number_to B A (λ t. turn (same t)) n)

  sum_to : (A B : Tuples) (F G : List ℕ → ℤ → Type 0) → SameTuples A B → ((t : List ℕ) (n : ℤ) → F t n → G t n) → (n : ℤ) → IsSumOver w A F n → IsSumOver w B G n
  sum_to A B F G same f n (rows, l, all, e) = (rows, list_of same _ l, (λ k d lt. f _ _ (all k d lt)), e)

  pub sum_same : (A B : Tuples) (F G : List ℕ → ℤ → Type 0) → SameTuples A B → ((t : List ℕ) (n : ℤ) → F t n ↔ G t n) → (n : ℤ) → IsSumOver w A F n ↔ IsSumOver w B G n
  sum_same A B F G same f n = (sum_to A B F G same (λ t m. (f t m).0) n, sum_to B A G F (λ t. turn (same t)) (λ t m. (f t m).1) n)

  less_same : (A B C D : Tuples) → SameTuples A B → SameTuples C D → IsLess w A C ↔ IsLess w B D
  less_same A B C D u v = (
    (λ (x, y, k, l, e). (x, y, (number_same A B u x).0 k, (number_same C D v y).0 l, e)),
    (λ (x, y, k, l, e). (x, y, (number_same A B u x).1 k, (number_same C D v y).1 l, e)),
  )

  pub compare_same : (op : Comparison) (A B C D : Tuples) → SameTuples A B → SameTuples C D → Compares w op A C ↔ Compares w op B D
  compare_same Equal A B C D u v = ((λ (x, k, l). (x, (number_same A B u x).0 k, (number_same C D v x).0 l)), (λ (x, k, l). (x, (number_same A B u x).1 k, (number_same C D v x).1 l)))
  compare_same Less A B C D u v = less_same A B C D u v
  compare_same AtMost A B C D u v = not_same (less_same C D A B v u)
  compare_same Greater A B C D u v = less_same C D A B v u
  compare_same AtLeast A B C D u v = not_same (less_same A B C D u v)

pub implied_same : {P Q R S : Type 0} → P ↔ Q → R ↔ S → IsImplied P R ↔ IsImplied Q S
implied_same f g = not_same (both_same f (not_same g))

pub connects_same : (op : Connective) {P Q R S : Type 0} → P ↔ Q → R ↔ S → Connects op P R ↔ Connects op Q S
connects_same Or f g = not_same (both_same (not_same f) (not_same g))
connects_same Implies f g = implied_same f g
connects_same Iff f g = both_same (implied_same f g) (implied_same g f)

pub chooses_same : {P Q R S T U : Type 0} → P ↔ Q → R ↔ S → T ↔ U → Chooses P R T ↔ Chooses Q S U
chooses_same f g h = both_same (implied_same f g) (implied_same (not_same f) h)
