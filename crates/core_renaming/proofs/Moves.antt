-- Each operator on sets of tuples goes with a renaming.
use Rattle.std.proofs.Common.{◌≡◌, ◌≢◌, ◌⊎◌, ◌↔◌, inl, inr, ℕ, List, [], ◌∷◌, ◌++◌, map, All, take, get_or, Bool, true, false, refl, sym, ap, ◌∙◌, subst}
use Rattle.std.proofs.lemmas.List.{map-append, take-map}
use Rattle.std.proofs.lemmas.List.Elements.{All-map}
use Rattle.core_tree.specs.declared.operators.Multiplicity.{Multiplicity}
use Rattle.core_tree.specs.declared.operators.Multiplicity.TheVariants.{Set, One, Lone, Some as SomeAre}
use Rattle.core_tree.specs.declared.operators.Quantity.{Quantity}
use Rattle.core_tree.specs.declared.operators.Quantity.TheVariants.{Some as SomeOf, No as NoneOf, One as OneOf, Lone as LoneOf}
use Rattle.core_tree.specs.declared.operators.RelationOp.{RelationOp}
use Rattle.core_tree.specs.declared.operators.RelationOp.TheVariants.{Union, Difference, Intersection, Join, Override, LeftRestrict, RightRestrict}
use Rattle.core_meaning.specs.Operators.{Tuples, Walk, last_step, step, combined_tuples, product_tuples, closure_tuples, IsInside, IsEqual, HasSome, IsLone, HasQuantity, HasMultiplicity, Quantified}
use Rattle.core_meaning.specs.Meaning.{one_of, atom}
use Rattle.core_window.proofs.SameLemmas.{both_same, not_same}
use Rattle.core_renaming.specs.Renamings.{Renaming, inverse}

-- renamed there and back
pub renamed_back : (r : Renaming) (t : List ℕ) → map r.from (map r.to t) ≡ t
renamed_back r [] = refl
renamed_back r (a ∷ t) = ap (λ b. b ∷ map r.from (map r.to t)) (r.from_to a) ∙ ap (λ u. a ∷ u) (renamed_back r t)

pub same_atom : (r : Renaming) (a b : ℕ) → r.to a ≡ r.to b → a ≡ b
same_atom r a b e = sym (r.from_to a) ∙ ap r.from e ∙ r.from_to b

pub same_tuple : (r : Renaming) (t u : List ℕ) → map r.to t ≡ map r.to u → t ≡ u
same_tuple r t u e = sym (renamed_back r t) ∙ ap (map r.from) e ∙ renamed_back r u

-- the second set has just the tuples of the first, renamed
pub record Moved (r : Renaming) (A B : Tuples) : Type 0 where
  pub to : (t : List ℕ) → A t → B (map r.to t)
  pub from : (t : List ℕ) → B t → A (map r.from t)

pub turn : {r : Renaming} {A B : Tuples} → Moved r A B → Moved (inverse r) B A
turn u = record { to = u.from; from = u.to }

pub back : {r : Renaming} {A B : Tuples} → Moved r A B → (t : List ℕ) → B (map r.to t) → A t
back {r} {A} {B} u t has = subst A (renamed_back r t) (u.from (map r.to t) has)

pub onto : {r : Renaming} {A B : Tuples} → Moved r A B → (t : List ℕ) → A (map r.from t) → B t
onto {r} {A} {B} u t has = subst B (renamed_back (inverse r) t) (u.to (map r.from t) has)

pub alike : {r : Renaming} {A B : Tuples} → Moved r A B → (t : List ℕ) → A t ↔ B (map r.to t)
alike u t = (u.to t, back u t)

pub moved_by : (r : Renaming) (A B : Tuples) → ((t : List ℕ) → A t ↔ B (map r.to t)) → Moved r A B
moved_by r A B same = record {
  to = λ t. (same t).0;
  from = λ t has. (same (map r.from t)).1 (subst B (sym (renamed_back (inverse r) t)) has);
}

-- what holds for all atoms, and for all tuples
pub all_atoms : (r : Renaming) (P Q : ℕ → Type 0) → ((a : ℕ) → P a ↔ Q (r.to a)) → ((a : ℕ) → P a) ↔ ((a : ℕ) → Q a)
all_atoms r P Q same = ((λ f a. subst Q (r.to_from a) ((same (r.from a)).0 (f (r.from a)))), (λ f a. (same a).1 (f (r.to a))))

pub all_tuples : (r : Renaming) (P Q : List ℕ → Type 0) → ((t : List ℕ) → P t ↔ Q (map r.to t)) → ((t : List ℕ) → P t) ↔ ((t : List ℕ) → Q t)
all_tuples r P Q same = ((λ f t. subst Q (renamed_back (inverse r) t) ((same (map r.from t)).0 (f (map r.from t)))), (λ f t. (same t).1 (f (map r.to t))))

pub implied : {P Q R S : Type 0} → P ↔ Q → R ↔ S → (P → R) ↔ (Q → S)
implied f g = ((λ h q. g.0 (h (f.1 q))), (λ h p. g.1 (h (f.0 p))))

-- ---- operators

combined_to : (r : Renaming) (op : RelationOp) {A B C D : Tuples} → Moved r A B → Moved r C D → (t : List ℕ) → combined_tuples op A C t → combined_tuples op B D (map r.to t)
combined_to r Union u v t (inl k) = inl (u.to t k)
combined_to r Union u v t (inr k) = inr (v.to t k)
combined_to r Difference u v t (k, other) = (u.to t k, λ l. other (back v t l))
combined_to r Intersection u v t (k, l) = (u.to t k, v.to t l)
combined_to r Join {B = B} u v t (s, q, x, k, l, e) =
    (map r.to s, map r.to q, r.to x, subst B (map-append r.to s (x ∷ [])) (u.to (s ++ x ∷ []) k), v.to (x ∷ q) l, ap (map r.to) e ∙ map-append r.to s q)
combined_to r Override u v t (inl l) = inl (v.to t l)
combined_to r Override u v t (inr (k, alone)) =
    inr (u.to t k, λ (x, q, s, e, l). alone (r.from x, map r.from q, map r.from s, sym (renamed_back r t) ∙ ap (map r.from) e, v.from (x ∷ s) l))
combined_to r LeftRestrict u v t (l, (x, q, e, k)) = (v.to t l, (r.to x, map r.to q, ap (map r.to) e, u.to (x ∷ []) k))
combined_to r RightRestrict u v t (k, (q, x, e, l)) = (u.to t k, (map r.to q, r.to x, ap (map r.to) e ∙ map-append r.to q (x ∷ []), v.to (x ∷ []) l))

pub combined_moved : (r : Renaming) (op : RelationOp) {A B C D : Tuples} → Moved r A B → Moved r C D → Moved r (combined_tuples op A C) (combined_tuples op B D)
combined_moved r op u v = record { to = combined_to r op u v; from = combined_to (inverse r) op (turn u) (turn v) }

product_to : (r : Renaming) {A B C D : Tuples} → Moved r A B → Moved r C D → (t : List ℕ) → product_tuples A C t → product_tuples B D (map r.to t)
product_to r u v t (s, q, k, l, e) = (map r.to s, map r.to q, u.to s k, v.to q l, ap (map r.to) e ∙ map-append r.to s q)

pub product_moved : (r : Renaming) {A B C D : Tuples} → Moved r A B → Moved r C D → Moved r (product_tuples A C) (product_tuples B D)
product_moved r u v = record { to = product_to r u v; from = product_to (inverse r) (turn u) (turn v) }

walk_to : (r : Renaming) {A B : Tuples} → Moved r A B → (a b : ℕ) → Walk A a b → Walk B (r.to a) (r.to b)
walk_to r u a b (last_step s) = last_step (u.to (a ∷ b ∷ []) s)
walk_to r u a b (step {b = c} s w) = step (u.to (a ∷ c ∷ []) s) (walk_to r u c b w)

closure_to : (r : Renaming) {A B : Tuples} → Moved r A B → (t : List ℕ) → closure_tuples A t → closure_tuples B (map r.to t)
closure_to r u t (x, y, w, e) = (r.to x, r.to y, walk_to r u x y w, ap (map r.to) e)

pub closure_moved : (r : Renaming) {A B : Tuples} → Moved r A B → Moved r (closure_tuples A) (closure_tuples B)
closure_moved r u = record { to = closure_to r u; from = closure_to (inverse r) (turn u) }

abbrev pub turned_tuples : Tuples → Tuples
turned_tuples A t = (x y : ℕ) × A (y ∷ x ∷ []) × (t ≡ x ∷ y ∷ [])

transpose_to : (r : Renaming) {A B : Tuples} → Moved r A B → (t : List ℕ) → turned_tuples A t → turned_tuples B (map r.to t)
transpose_to r u t (x, y, k, e) = (r.to x, r.to y, u.to (y ∷ x ∷ []) k, ap (map r.to) e)

pub transpose_moved : (r : Renaming) {A B : Tuples} → Moved r A B → Moved r (turned_tuples A) (turned_tuples B)
transpose_moved r u = record { to = transpose_to r u; from = transpose_to (inverse r) (turn u) }

-- the pairs of atoms with themselves
abbrev pub pairs_of : (ℕ → Type 0) → Tuples
pairs_of U t = (a : ℕ) × U a × (t ≡ a ∷ a ∷ [])

abbrev pub atoms_of : (ℕ → Type 0) → Tuples
atoms_of U t = (a : ℕ) × U a × (t ≡ a ∷ [])

pub record MovedAtoms (r : Renaming) (U V : ℕ → Type 0) : Type 0 where
  pub to : (a : ℕ) → U a → V (r.to a)
  pub from : (a : ℕ) → V a → U (r.from a)

pub pairs_moved : (r : Renaming) {U V : ℕ → Type 0} → MovedAtoms r U V → Moved r (pairs_of U) (pairs_of V)
pairs_moved r m = record {
  to = λ t (a, has, e). (r.to a, m.to a has, ap (map r.to) e);
  from = λ t (a, has, e). (r.from a, m.from a has, ap (map r.from) e);
}

pub atoms_moved : (r : Renaming) {U V : ℕ → Type 0} → MovedAtoms r U V → Moved r (atoms_of U) (atoms_of V)
atoms_moved r m = record {
  to = λ t (a, has, e). (r.to a, m.to a has, ap (map r.to) e);
  from = λ t (a, has, e). (r.from a, m.from a has, ap (map r.from) e);
}

pub atom_moved : (r : Renaming) (a i : ℕ) → Moved r (atom a i) (atom (r.to a) i)
atom_moved r a i = record {
  to = λ t e. ap (map r.to) e;
  from = λ t e. ap (map r.from) e ∙ ap (λ b. b ∷ []) (r.from_to a);
}

pub either_moved : {r : Renaming} {A B C D : Tuples} → Moved r A B → Moved r C D → Moved r (λ t. A t ⊎ C t) (λ t. B t ⊎ D t)
either_moved u v = record {
  to = λ t. elim [ inl k ↦ inl (u.to t k) | inr k ↦ inr (v.to t k) ];
  from = λ t. elim [ inl k ↦ inl (u.from t k) | inr k ↦ inr (v.from t k) ];
}

-- what holds of the tuples where a fact holds
pub where_moved : {r : Renaming} {F G : Type 0} {A B : Tuples} → F ↔ G → Moved r A B → Moved r (λ t. F × A t) (λ t. G × B t)
where_moved f u = record { to = λ t (x, k). (f.0 x, u.to t k); from = λ t (x, k). (f.1 x, u.from t k) }

pub one_moved : {r : Renaming} (b : Bool) {A B C D : Tuples} → Moved r A C → Moved r B D → Moved r (one_of b A B) (one_of b C D)
one_moved true u v = u
one_moved false u v = v

-- ---- tests

inside_to : (r : Renaming) {A B C D : Tuples} → Moved r A B → Moved r C D → IsInside A C → IsInside B D
inside_to r u v k t has = onto v t (k (map r.from t) (u.from t has))

pub inside_moved : (r : Renaming) {A B C D : Tuples} → Moved r A B → Moved r C D → IsInside A C ↔ IsInside B D
inside_moved r u v = (inside_to r u v, inside_to (inverse r) (turn u) (turn v))

pub equal_moved : (r : Renaming) {A B C D : Tuples} → Moved r A B → Moved r C D → IsEqual A C ↔ IsEqual B D
equal_moved r u v = both_same (inside_moved r u v) (inside_moved r v u)

pub some_moved : (r : Renaming) {A B : Tuples} → Moved r A B → HasSome A ↔ HasSome B
some_moved r u = ((λ (t, k). (map r.to t, u.to t k)), (λ (t, k). (map r.from t, u.from t k)))

lone_to : (r : Renaming) {A B : Tuples} → Moved r A B → IsLone A → IsLone B
lone_to r u k s t x y = same_tuple (inverse r) s t (k (map r.from s) (map r.from t) (u.from s x) (u.from t y))

pub lone_moved : (r : Renaming) {A B : Tuples} → Moved r A B → IsLone A ↔ IsLone B
lone_moved r u = (lone_to r u, lone_to (inverse r) (turn u))

pub quantity_moved : (r : Renaming) (q : Quantity) {A B : Tuples} → Moved r A B → HasQuantity q A ↔ HasQuantity q B
quantity_moved r SomeOf u = some_moved r u
quantity_moved r NoneOf u = not_same (some_moved r u)
quantity_moved r OneOf u = both_same (some_moved r u) (lone_moved r u)
quantity_moved r LoneOf u = lone_moved r u

pub multiplicity_moved : (r : Renaming) (m : Multiplicity) {A B : Tuples} → Moved r A B → HasMultiplicity m A ↔ HasMultiplicity m B
multiplicity_moved r Set u = ((λ x. x), (λ x. x))
multiplicity_moved r One u = both_same (some_moved r u) (lone_moved r u)
multiplicity_moved r Lone u = lone_moved r u
multiplicity_moved r SomeAre u = some_moved r u

pub quantified_moved : (r : Renaming) (q : Quantity) {P Q : Type 0} {A B : Tuples} → P ↔ Q → Moved r A B → Quantified q P A ↔ Quantified q Q B
quantified_moved r SomeOf f u = not_same f
quantified_moved r NoneOf f u = f
quantified_moved r OneOf f u = both_same (not_same f) (lone_moved r u)
quantified_moved r LoneOf f u = lone_moved r u

-- ---- the tuples that go on from another, and those that go before one

pub after_moved : (r : Renaming) {E F : Tuples} → Moved r E F → (s : List ℕ) → Moved r (λ u. E (s ++ u)) (λ u. F (map r.to s ++ u))
after_moved r {E} {F} m s = moved_by r (λ u. E (s ++ u)) (λ u. F (map r.to s ++ u))
    (λ u. ((λ has. subst F (map-append r.to s u) (m.to (s ++ u) has)), (λ has. back m (s ++ u) (subst F (sym (map-append r.to s u)) has))))

pub before_moved : (r : Renaming) {E F : Tuples} → Moved r E F → (u : List ℕ) → Moved r (λ s. E (s ++ u)) (λ s. F (s ++ map r.to u))
before_moved r {E} {F} m u = moved_by r (λ s. E (s ++ u)) (λ s. F (s ++ map r.to u))
    (λ s. ((λ has. subst F (map-append r.to s u) (m.to (s ++ u) has)), (λ has. back m (s ++ u) (subst F (sym (map-append r.to s u)) has))))

-- ---- atoms that differ from earlier ones

apart_to : (r : Renaming) (n a : ℕ) (bs : List ℕ) → All (λ b. a ≢ b) (take n bs) → All (λ b. r.to a ≢ b) (take n (map r.to bs))
apart_to r n a bs h = subst (All (λ b. r.to a ≢ b)) (sym (take-map r.to n bs)) (All-map (λ b. r.to a ≢ b) r.to (take n bs) (λ k d lt e. h k d lt (same_atom r a (get_or (take n bs) k d) e)))

pub apart_moved : (r : Renaming) (n a : ℕ) (bs : List ℕ) → All (λ b. a ≢ b) (take n bs) ↔ All (λ b. r.to a ≢ b) (take n (map r.to bs))
apart_moved r n a bs = (
  apart_to r n a bs,
  λ h. subst (λ cs. All (λ b. a ≢ b) (take n cs)) (renamed_back r bs) (subst (λ x. All (λ b. x ≢ b) (take n (map r.from (map r.to bs)))) (r.from_to a) (apart_to (inverse r) n (r.to a) (map r.to bs) h)),
)

-- a first atom and the tuple of the others
pub split_moved : (r : Renaming) (K L M N : ℕ → Type 0) (E F : ℕ → List ℕ → Type 0) → ((a : ℕ) → K a ↔ L (r.to a)) → ((a : ℕ) → M a ↔ N (r.to a)) → ((a : ℕ) (u : List ℕ) → E a u ↔ F (r.to a) (map r.to u)) →
    (t : List ℕ) → ((a : ℕ) × (u : List ℕ) × (t ≡ a ∷ u) × K a × M a × E a u) ↔ ((a : ℕ) × (u : List ℕ) × (map r.to t ≡ a ∷ u) × L a × N a × F a u)
split_moved r K L M N E F first second others t = (
  (λ (a, u, is, k, m, x). (r.to a, map r.to u, ap (map r.to) is, (first a).0 k, (second a).0 m, (others a u).0 x)),
  (λ (a, u, is, k, m, x). (
    r.from a,
    map r.from u,
    sym (renamed_back r t) ∙ ap (map r.from) is,
    (first (r.from a)).1 (subst L (sym (r.to_from a)) k),
    (second (r.from a)).1 (subst N (sym (r.to_from a)) m),
    (others (r.from a) (map r.from u)).1 (subst (λ b. F b (map r.to (map r.from u))) (sym (r.to_from a)) (subst (F a) (sym (renamed_back (inverse r) u)) x)),
  )),
)

pub empty_moved : (r : Renaming) (t : List ℕ) → (t ≡ []) ↔ (map r.to t ≡ [])
empty_moved r t = ((λ e. ap (map r.to) e), (λ e. sym (renamed_back r t) ∙ ap (map r.from) e))

pub nothing_moved : (r : Renaming) → Moved r (λ t. ⊥) (λ t. ⊥)
nothing_moved r = record { to = λ t k. k; from = λ t k. k }
