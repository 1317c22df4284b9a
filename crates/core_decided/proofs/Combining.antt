-- Each operator on relations has a list where its operands have, and tests of sets with lists are decided.
use Rattle.std.specs.Prelude.{◌≡◌, ◌⊎◌, ℕ, ◌+◌, ◌<◌, ◌≤◌, ◌^◌, List, [], ◌∷◌, ◌++◌, Contains, length, Some, None, Bool, true, false, slice_get}
use Rattle.std.proofs.Common.{inl, inr, refl, sym, ap, subst, ◌∙◌}
use Rattle.std.proofs.lemmas.Option.{slice_get_within}
use Rattle.core_tree.specs.declared.operators.Multiplicity.{Multiplicity}
use Rattle.core_tree.specs.declared.operators.Multiplicity.TheVariants.{Set, One, Lone, Some as SomeTimes}
use Rattle.core_tree.specs.declared.operators.Quantity.{Quantity}
use Rattle.core_tree.specs.declared.operators.Quantity.TheVariants.{Some as SomeOf, No as NoneOf, One as OneOf, Lone as LoneOf}
use Rattle.core_tree.specs.declared.operators.Connective.{Connective}
use Rattle.core_tree.specs.declared.operators.Connective.TheVariants.{Or, Implies, Iff}
use Rattle.core_tree.specs.declared.operators.RelationOp.{RelationOp}
use Rattle.core_tree.specs.declared.operators.RelationOp.TheVariants.{Union, Difference, Intersection, Join, Override, LeftRestrict, RightRestrict}
use Rattle.core_tree.specs.declared.operators.UnaryRelation.{UnaryRelation}
use Rattle.core_tree.specs.declared.operators.UnaryRelation.TheVariants.{Transpose, Closure, ReflexiveClosure}
use Rattle.core_tuples.specs.Sets.{TupleList}
use Rattle.core_meaning.specs.Sequence.{place_of}
use Rattle.core_meaning.specs.World.{World, InRelation, InUniverse, IsInteger, IsTop}
use Rattle.core_meaning.specs.Operators.{Tuples, combined_tuples, product_tuples, identity_tuples, closure_tuples, unary_tuples, IsInside, IsEqual, IsLone, HasQuantity, HasMultiplicity, Quantified, IsImplied, Connects, Chooses}
use Rattle.core_decided.specs.Decided.{IsDecided, IsListed}
use Rattle.core_decided.proofs.Listing.{decided_by, decided_not, decided_both, decided_lt, decided_le, decided_list, same_head, same_rest, some_is_none, listed_by, listed_none, listed_one, listed_either, listed_over, listed_that, listed_below, decided_some, decided_each, decided_in, option_cases, none_is_some, same_some}
use Rattle.core_decided.proofs.Cutting.{Parts, IsCut, cut_that, decided_cut, listed_after, single_cases, pair_cases, listed_atoms}
use Rattle.core_decided.proofs.Walking.{listed_closure}

-- Operators.

pub listed_product : (A B : Tuples) → IsListed A → IsListed B → IsListed (product_tuples A B)
listed_product A B l m =
    listed_by (λ t. (s : List ℕ) × A s × ((u : List ℕ) × B u × (t ≡ s ++ u))) (product_tuples A B)
    (λ t (s, a, (u, b, e)). (s, u, a, b, e)) (λ t (s, u, a, b, e). (s, a, (u, b, e)))
    (listed_over A (λ s t. (u : List ℕ) × B u × (t ≡ s ++ u)) l
    (λ s a. listed_over B (λ u t. t ≡ s ++ u) m (λ u b. listed_one (λ t. t ≡ s ++ u) (s ++ u) refl (λ z e. e))))

-- what a cut of a tuple of the first has with the second
abbrev Met : Tuples → Parts → Tuples
Met B p t = (x : ℕ) × (u : List ℕ) × (p.1 ≡ x ∷ []) × B (x ∷ u) × (t ≡ p.0 ++ u)

listed_join : (A B : Tuples) → IsListed A → IsListed B → IsListed (combined_tuples Join A B)
listed_join A B l m =
    listed_by (λ t. (r : List ℕ) × A r × ((p : Parts) × IsCut r p × Met B p t)) (combined_tuples Join A B)
    (λ t (r, a, (p, c, (x, u, e, b, f))). (p.0, u, x, subst A (c ∙ ap (λ v. p.0 ++ v) e) a, b, f))
    (λ t (s, u, x, a, b, e). (s ++ x ∷ [], a, ((s, x ∷ []), refl, (x, u, refl, b, e))))
    (listed_over A (λ r t. (p : Parts) × IsCut r p × Met B p t) l (λ r a. cut_that (Met B) (λ p. met p (single_cases p.1)) r))
  where
    met : (p : Parts) → ((x : ℕ) × (p.1 ≡ x ∷ [])) ⊎ ((x : ℕ) → p.1 ≡ x ∷ [] → ⊥) → IsListed (Met B p)
    met p (inr n) = listed_none (Met B p) (λ t (x, u, e, b, f). n x e)
    met p (inl (y, d)) =
        listed_by (λ t. (u : List ℕ) × B (y ∷ u) × (t ≡ p.0 ++ u)) (Met B p)
        (λ t (u, b, f). (y, u, d, b, f)) (λ t (x, u, e, b, f). (u, subst (λ k. B (k ∷ u)) (same_head (sym e ∙ d)) b, f))
        (listed_over (λ u. B (y ∷ u)) (λ u t. t ≡ p.0 ++ u) (listed_after B m (y ∷ [])) (λ u b. listed_one (λ t. t ≡ p.0 ++ u) (p.0 ++ u) refl (λ z e. e)))

-- whether a tuple begins with the first number of one of a set
begins_in : (B : Tuples) → IsListed B → (t : List ℕ) → IsDecided ((x : ℕ) × (r s : List ℕ) × (t ≡ x ∷ r) × B (x ∷ s))
begins_in B m [] = inr (λ (x, r, s, e, b). some_is_none x r e)
begins_in B m (y ∷ t) = decided_by (λ (s, b). (y, t, s, refl, b)) (λ (x, r, s, e, b). (s, subst (λ k. B (k ∷ s)) (sym (same_head e)) b)) (decided_some (λ s. B (y ∷ s)) (listed_after B m (y ∷ [])))

-- whether its first atom is in a set, and whether its last is
pub first_in : (A : Tuples) → IsListed A → (t : List ℕ) → IsDecided ((x : ℕ) × (r : List ℕ) × (t ≡ x ∷ r) × A (x ∷ []))
first_in A l [] = inr (λ (x, r, e, b). some_is_none x r e)
first_in A l (y ∷ t) = decided_by (λ b. (y, t, refl, b)) (λ (x, r, e, b). subst (λ k. A (k ∷ [])) (sym (same_head e)) b) (decided_in A l (y ∷ []))

last_in : (B : Tuples) → IsListed B → (t : List ℕ) → IsDecided ((r : List ℕ) × (x : ℕ) × (t ≡ r ++ x ∷ []) × B (x ∷ []))
last_in B m t =
    decided_by (λ (p, c, (x, e, b)). (p.0, x, c ∙ ap (λ v. p.0 ++ v) e, b)) (λ (r, x, e, b). ((r, x ∷ []), e, (x, refl, b)))
    (decided_cut (λ p. (x : ℕ) × (p.1 ≡ x ∷ []) × B (x ∷ [])) (λ p. one p.1 (single_cases p.1)) t)
  where
    one : (u : List ℕ) → ((x : ℕ) × (u ≡ x ∷ [])) ⊎ ((x : ℕ) → u ≡ x ∷ [] → ⊥) → IsDecided ((x : ℕ) × (u ≡ x ∷ []) × B (x ∷ []))
    one u (inr n) = inr (λ (x, e, b). n x e)
    one u (inl (y, d)) = decided_by (λ b. (y, d, b)) (λ (x, e, b). subst (λ k. B (k ∷ [])) (same_head (sym e ∙ d)) b) (decided_in B m (y ∷ []))

-- each operator on two relations
pub listed_combined : (op : RelationOp) (A B : Tuples) → IsListed A → IsListed B → IsListed (combined_tuples op A B)
listed_combined Union A B l m = listed_either A B l m
listed_combined Difference A B l m = listed_that A (λ t. ¬ B t) l (λ t a. decided_not (decided_in B m t))
listed_combined Intersection A B l m = listed_that A B l (λ t a. decided_in B m t)
listed_combined Join A B l m = listed_join A B l m
listed_combined Override A B l m =
    let Free : Tuples = λ t. ¬ ((x : ℕ) × (r s : List ℕ) × (t ≡ x ∷ r) × B (x ∷ s)) in
    listed_either B (λ t. A t × Free t) m (listed_that A Free l (λ t a. decided_not (begins_in B m t)))
listed_combined LeftRestrict A B l m = listed_that B (λ t. (x : ℕ) × (r : List ℕ) × (t ≡ x ∷ r) × A (x ∷ [])) m (λ t b. first_in A l t)
listed_combined RightRestrict A B l m = listed_that A (λ t. (r : List ℕ) × (x : ℕ) × (t ≡ r ++ x ∷ []) × B (x ∷ [])) l (λ t a. last_in B m t)

-- a pair turned
abbrev Turned : List ℕ → Tuples
Turned s t = (x y : ℕ) × (s ≡ y ∷ x ∷ []) × (t ≡ x ∷ y ∷ [])

listed_transpose : (A : Tuples) → IsListed A → IsListed (λ t. (x y : ℕ) × A (y ∷ x ∷ []) × (t ≡ x ∷ y ∷ []))
listed_transpose A l =
    listed_by (λ t. (s : List ℕ) × A s × Turned s t) (λ t. (x y : ℕ) × A (y ∷ x ∷ []) × (t ≡ x ∷ y ∷ []))
    (λ t (s, a, (x, y, e, f)). (x, y, subst A e a, f)) (λ t (x, y, a, f). (y ∷ x ∷ [], a, (x, y, refl, f)))
    (listed_over A Turned l (λ s a. one s (pair_cases s)))
  where
    one : (s : List ℕ) → ((x y : ℕ) × (s ≡ x ∷ y ∷ [])) ⊎ ((x y : ℕ) → s ≡ x ∷ y ∷ [] → ⊥) → IsListed (Turned s)
    one s (inr n) = listed_none (Turned s) (λ t (x, y, e, f). n y x e)
    one s (inl (v, u, d)) = listed_one (Turned s) (u ∷ v ∷ []) (u, v, d, refl)
        (λ t (x, y, e, f). f ∙ ap (λ k. k ∷ y ∷ []) (same_head (same_rest (sym e ∙ d))) ∙ ap (λ k. u ∷ k ∷ []) (same_head (sym e ∙ d)))

-- What there is.

module _ (w : World) where
  pub listed_relation : (s i : ℕ) → IsListed (InRelation w s i)
  listed_relation s i = by_state (option_cases (slice_get w.lasso.states (place_of w.lasso i)))
    where
      by_set : (state : List TupleList) → slice_get w.lasso.states (place_of w.lasso i) ≡ Some state → ((slice_get state s ≡ None) ⊎ ((set : TupleList) × (slice_get state s ≡ Some set))) → IsListed (InRelation w s i)
      by_set state e (inl n) = listed_none (InRelation w s i) (λ t (r, set, f, g, c). none_is_some set (sym n ∙ ap (λ v. slice_get v s) (same_some state r (sym e ∙ f)) ∙ g))
      by_set state e (inr (own, d)) =
          listed_by (Contains own.tuples) (InRelation w s i)
          (λ t c. (state, own, e, d, c))
          (λ t (r, set, f, g, c). subst (λ (v : TupleList). Contains v.tuples t) (sym (same_some own set (sym d ∙ ap (λ v. slice_get v s) (same_some state r (sym e ∙ f)) ∙ g))) c)
          (own.tuples, λ t. ((λ c. c), (λ c. c)))

      by_state : ((slice_get w.lasso.states (place_of w.lasso i) ≡ None) ⊎ ((state : List TupleList) × (slice_get w.lasso.states (place_of w.lasso i) ≡ Some state))) → IsListed (InRelation w s i)
      by_state (inl n) = listed_none (InRelation w s i) (λ t (state, set, e, f, c). none_is_some state (sym n ∙ e))
      by_state (inr (state, e)) = by_set state e (option_cases (slice_get state s))

  listed_integers : IsListed (IsInteger w)
  listed_integers =
      listed_by (λ a. (a < w.atoms + 2 ^ w.bits) × (w.atoms ≤ a)) (IsInteger w) (λ a b. (b.1, b.0)) (λ a b. (b.1, b.0))
      (listed_that (λ a. a < w.atoms + 2 ^ w.bits) (λ a. w.atoms ≤ a) (listed_below (w.atoms + 2 ^ w.bits)) (λ a lt. decided_le w.atoms a))

  pub decided_integer : (a : ℕ) → IsDecided (IsInteger w a)
  decided_integer a = decided_both (decided_le w.atoms a) (decided_lt a (w.atoms + 2 ^ w.bits))

  decided_top : (s : ℕ) → IsDecided (IsTop w s)
  decided_top s = one (option_cases (slice_get w.top s))
    where
      value : (b : Bool) → slice_get w.top s ≡ Some b → IsDecided (IsTop w s)
      value true e = inl e
      value false e = inr (λ f. different (sym e ∙ f))
        where
          different : Some false ≡ Some true → ⊥
          different g = cc

      one : (slice_get w.top s ≡ None) ⊎ ((b : Bool) × (slice_get w.top s ≡ Some b)) → IsDecided (IsTop w s)
      one (inl n) = inr (λ f. none_is_some true (sym n ∙ f))
      one (inr (b, e)) = value b e

  listed_tops : IsListed (IsTop w)
  listed_tops =
      listed_by (λ s. (s < length w.top) × IsTop w s) (IsTop w) (λ s b. b.1) (λ s b. (slice_get_within w.top s true b, b))
      (listed_that (λ s. s < length w.top) (IsTop w) (listed_below (length w.top)) (λ s lt. decided_top s))

  -- the atoms of the top-level sigs, and the integers
  listed_universe : (i : ℕ) → IsListed (InUniverse w i)
  listed_universe i =
      let Tops : ℕ → Type 0 = λ a. (s : ℕ) × IsTop w s × InRelation w s i (a ∷ []) in
      listed_either Tops (IsInteger w) (listed_over (IsTop w) (λ s a. InRelation w s i (a ∷ [])) listed_tops (λ s t. listed_atoms (InRelation w s i) (listed_relation s i))) listed_integers

  pub listed_univ : (i : ℕ) → IsListed (λ (t : List ℕ). (a : ℕ) × InUniverse w i a × (t ≡ a ∷ []))
  listed_univ i = listed_over (InUniverse w i) (λ a t. t ≡ a ∷ []) (listed_universe i) (λ a u. listed_one (λ t. t ≡ a ∷ []) (a ∷ []) refl (λ z e. e))

  pub listed_int : IsListed (λ (t : List ℕ). (a : ℕ) × IsInteger w a × (t ≡ a ∷ []))
  listed_int = listed_over (IsInteger w) (λ a t. t ≡ a ∷ []) listed_integers (λ a u. listed_one (λ t. t ≡ a ∷ []) (a ∷ []) refl (λ z e. e))

  pub listed_identity : (i : ℕ) → IsListed (identity_tuples w i)
  listed_identity i = listed_over (InUniverse w i) (λ a t. t ≡ a ∷ a ∷ []) (listed_universe i) (λ a u. listed_one (λ t. t ≡ a ∷ a ∷ []) (a ∷ a ∷ []) refl (λ z e. e))

  pub listed_unary : (i : ℕ) (op : UnaryRelation) (A : Tuples) → IsListed A → IsListed (unary_tuples w i op A)
  listed_unary i Transpose A l = listed_transpose A l
  listed_unary i Closure A l = listed_closure A l
  listed_unary i ReflexiveClosure A l = listed_either (closure_tuples A) (identity_tuples w i) (listed_closure A l) (listed_identity i)

-- Tests.

pub decided_inside : (A B : Tuples) → IsListed A → IsListed B → IsDecided (IsInside A B)
decided_inside A B l m = decided_each A B l (λ t a. decided_in B m t)

pub decided_equal : (A B : Tuples) → IsListed A → IsListed B → IsDecided (IsEqual A B)
decided_equal A B l m = decided_both (decided_inside A B l m) (decided_inside B A m l)

decided_lone : (A : Tuples) → IsListed A → IsDecided (IsLone A)
decided_lone A l =
    decided_by (λ f t u a b. f t a u b) (λ f t a u b. f t u a b)
    (decided_each A (λ t. (u : List ℕ) → A u → t ≡ u) l (λ t a. decided_each A (λ u. t ≡ u) l (λ u b. decided_list t u)))

pub decided_quantity : (q : Quantity) (A : Tuples) → IsListed A → IsDecided (HasQuantity q A)
decided_quantity SomeOf A l = decided_some A l
decided_quantity NoneOf A l = decided_not (decided_some A l)
decided_quantity OneOf A l = decided_both (decided_some A l) (decided_lone A l)
decided_quantity LoneOf A l = decided_lone A l

pub decided_multiplicity : (m : Multiplicity) (A : Tuples) → IsListed A → IsDecided (HasMultiplicity m A)
decided_multiplicity Set A l = inl tt
decided_multiplicity One A l = decided_both (decided_some A l) (decided_lone A l)
decided_multiplicity Lone A l = decided_lone A l
decided_multiplicity SomeTimes A l = decided_some A l

pub decided_quantified : (q : Quantity) (F : Type 0) (A : Tuples) → IsDecided F → IsListed A → IsDecided (Quantified q F A)
decided_quantified SomeOf F A d l = decided_not d
decided_quantified NoneOf F A d l = d
decided_quantified OneOf F A d l = decided_both (decided_not d) (decided_lone A l)
decided_quantified LoneOf F A d l = decided_lone A l

decided_implied : {F G : Type 0} → IsDecided F → IsDecided G → IsDecided (IsImplied F G)
decided_implied d e = decided_not (decided_both d (decided_not e))

pub decided_connects : (op : Connective) {F G : Type 0} → IsDecided F → IsDecided G → IsDecided (Connects op F G)
decided_connects Or d e = decided_not (decided_both (decided_not d) (decided_not e))
decided_connects Implies d e = decided_implied d e
decided_connects Iff d e = decided_both (decided_implied d e) (decided_implied e d)

pub decided_chooses : {F G H : Type 0} → IsDecided F → IsDecided G → IsDecided H → IsDecided (Chooses F G H)
decided_chooses d e f = decided_both (decided_implied d e) (decided_implied (decided_not d) f)
