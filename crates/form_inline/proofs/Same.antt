-- Each form says the same written out where its parts do.
use Rattle.std.proofs.Common.{◌≡◌, ◌↔◌, ℕ, ◌+◌, ◌-◌, ◌<◌, Bool, true, false, eqb, if◌then◌else◌, List, [], ◌∷◌, ◌++◌, map, Option, Some, ℤ, refl, sym, ap, subst, arith}
use Rattle.std.proofs.lemmas.Bool.{eqb-true, eq-eqb}
use Rattle.core_tree.specs.declared.operators.Multiplicity.{Multiplicity}
use Rattle.core_tree.specs.declared.operators.Quantity.{Quantity}
use Rattle.core_tree.specs.declared.operators.Comparison.{Comparison}
use Rattle.core_tree.specs.declared.operators.Connective.{Connective}
use Rattle.core_tree.specs.declared.operators.RelationOp.{RelationOp}
use Rattle.core_tree.specs.declared.operators.UnaryRelation.{UnaryRelation}
use Rattle.core_tree.specs.declared.operators.IntOp.{IntOp}
use Rattle.core_tree.specs.declared.operators.TemporalUnary.{TemporalUnary}
use Rattle.core_tree.specs.declared.operators.TemporalUnary.TheVariants.{After, Always, Eventually, Before, Historically, Once}
use Rattle.core_tree.specs.declared.operators.TemporalBinary.{TemporalBinary}
use Rattle.core_tree.specs.declared.operators.TemporalBinary.TheVariants.{Until, Releases, Since, Triggered, Then}
use Rattle.core_tree.specs.declared.model.Body.{Body}
use Rattle.core_tree.specs.Trees.{Term, Claim, Binder, combine, product, unary, prime, choose_term, comprehension, count, arithmetic, sum_over, let_term, inside, equal, within, test, compare, negation, connect, choose_claim, for_all, counted, temporal, temporal_pair, let_claim, term_of, term_list, variable_list}
use Rattle.core_meaning.specs.World.{World}
use Rattle.core_meaning.specs.Operators.{HasMultiplicity, Tuples, Times, SomeLater, SomeEarlier, UntilAt, SinceAt, Happens, HappenBoth, IsNumber}
use Rattle.core_meaning.specs.Meaning.{Names, Bodies, one_of, with_name, atom, InTerm, Picked, ForEach, Fits, Holds, passed}
use Rattle.core_meaning.specs.Called.{no_bodies, called}
use Rattle.core_window.proofs.SameLemmas.{both_same, either_same, not_same, combined_same, product_same, unary_same, inside_same, equal_same, quantity_same, multiplicity_same, quantified_same, count_same, number_same, sum_same, compare_same, connects_same, chooses_same}
use Rattle.form_inline.specs.declared.given.Given.{Given}
use Rattle.form_inline.specs.declared.given.Given.TheVariants.{Empty, Level', Written', Passed'}
use Rattle.form_inline.specs.Written.{atom_or_none, atoms, given_names, IsBelow, IsPlain, IsNoArrow, SameTerm, SameClaim, SameBound, bound_arrow, bound_leaf, Binds, under_none, under_more}
use Rattle.core_window.specs.Repeats.{SameTuples}

pub still : {P : Type 0} → P ↔ P
still = ((λ x. x), (λ x. x))

-- one atom more
abbrev pub with_atom : (ℕ → Option ℕ) → ℕ → ℕ → ℕ → Option ℕ
with_atom m k a y = if eqb y k then Some a else m y

picked_atom : (b : Bool) (a : ℕ) (o : Option ℕ) (i : ℕ) → one_of b (atom a i) (atom_or_none o) ≡ atom_or_none (if b then Some a else o)
picked_atom true a o i = refl
picked_atom false a o i = refl

atom_names : (m : ℕ → Option ℕ) (k a : ℕ) → with_name (atoms m) k (atom a) ≡ atoms (with_atom m k a)
atom_names m k a = λ q y i t. picked_atom (eqb y k) a (m y) i q t

with_same : (m : ℕ → Option ℕ) (k a : ℕ) → with_atom m k a k ≡ Some a
with_same m k a = ap (λ b. if b then Some a else m k) (eq-eqb k k refl)

with_other : (m : ℕ → Option ℕ) (k a y : ℕ) → y < k → with_atom m k a y ≡ m y
with_other m k a y h = go (eqb y k) refl
  where
    go : (b : Bool) → eqb y k ≡ b → (if eqb y k then Some a else m y) ≡ m y
    go true e = absurd (let same : y ≡ k = eqb-true y k e in omega (arith, h, same))
    go false e = ap (λ b. if b then Some a else m y) e

pub below_more : (given : Given) (level : ℕ) → IsBelow given level → IsBelow given (level + 1)
below_more Empty level below = tt
below_more (Level' x k p rest) level below = (omega (arith, below.0), below_more rest level below.1)
below_more (Written' x n e p rest) level below = below_more rest level below
below_more (Passed' n es p outer) level below = below_more outer level below

pub below_at : (given : Given) (level next : ℕ) → next ≡ level + 1 → IsBelow given level → IsBelow given next
below_at given level next is below = subst (λ k. IsBelow given k) (sym is) (below_more given level below)

module _ (w : World) (bodies : List Body) where
  -- names that were there before know nothing of a later variable
  kept : (given : Given) (level : ℕ) (m : ℕ → Option ℕ) (a : ℕ) → IsBelow given level → given_names w bodies given (with_atom m level a) ≡ given_names w bodies given m
  kept Empty level m a below = refl
  kept (Level' x k p rest) level m a below =
      let rest_same = kept rest level m a below.1 in
      let same = with_other m level a k below.0 in
      λ q. with_name (rest_same q) x (λ i t. atom_or_none (same q) t)
  kept (Written' x n e p rest) level m a below =
      let rest_same = kept rest level m a below in
      λ q. with_name (rest_same q) x (λ j. InTerm w (called w bodies n) (term_of e.now) (rest_same q) j)
  kept (Passed' n es p outer) level m a below =
      let outer_same = kept outer level m a below in
      λ q. passed w (called w bodies n) (term_list (map term_of es.now)) (outer_same q)

  -- under one variable more
  level_names : (given : Given) (level x : ℕ) (p : _) (m : ℕ → Option ℕ) (a : ℕ) → IsBelow given level → given_names w bodies (Level' x level p given) (with_atom m level a) ≡ with_name (given_names w bodies given m) x (atom a)
  level_names given level x p m a below =
      let rest_same = kept given level m a below in
      let same = with_same m level a in
      λ q. with_name (rest_same q) x (λ i t. atom_or_none (same q) t)

  module _ (n : ℕ) (Inner : Given → Type 0) (P Q : Names → Type 0) (inner_same : (given : Given) → Inner given → (m : ℕ → Option ℕ) → P (atoms m) ↔ Q (given_names w bodies given m)) where
    pub picked_same : (news olds : List Binder) (given : Given) (level : ℕ) → Binds bodies n Inner news olds given level → IsBelow given level → (m : ℕ → Option ℕ) (i : ℕ) (earlier t : List ℕ) →
        Picked w no_bodies (variable_list news) P (atoms m) i earlier t ↔ Picked w (called w bodies n) (variable_list olds) Q (given_names w bodies given m) i earlier t
    picked_same _ _ given level (under_none inner) below m i earlier t = both_same still (inner_same given inner m)
    picked_same _ _ given level (under_more {x} {new} {old} {news} {olds} {p} bound rest) below m i earlier t =
        let more : (a : ℕ) (u : List ℕ) → Picked w no_bodies (variable_list news) P (with_name (atoms m) level (atom a)) i (a ∷ earlier) u ↔ Picked w (called w bodies n) (variable_list olds) Q (with_name (given_names w bodies given m) x (atom a)) i (a ∷ earlier) u
        = λ a u.
        let same = picked_same news olds (Level' x level p given) (level + 1) rest (omega arith, below_more given level below) (with_atom m level a) i (a ∷ earlier) u in
        let left = subst (λ (names : Names). Picked w no_bodies (variable_list news) P names i (a ∷ earlier) u ↔ Picked w (called w bodies n) (variable_list olds) Q (given_names w bodies (Level' x level p given) (with_atom m level a)) i (a ∷ earlier) u) (sym (atom_names m level a)) same in
        subst (λ (names : Names). Picked w no_bodies (variable_list news) P (with_name (atoms m) level (atom a)) i (a ∷ earlier) u ↔ Picked w (called w bodies n) (variable_list olds) Q names i (a ∷ earlier) u) (level_names given level x p m a below) left in (
          (λ (a, u, e, k, apart, r). (a, u, e, (bound.same w m i (a ∷ [])).0 k, apart, (more a u).0 r)),
          (λ (a, u, e, k, apart, r). (a, u, e, (bound.same w m i (a ∷ [])).1 k, apart, (more a u).1 r)),
        )

    pub each_same : (news olds : List Binder) (given : Given) (level : ℕ) → Binds bodies n Inner news olds given level → IsBelow given level → (m : ℕ → Option ℕ) (i : ℕ) (earlier : List ℕ) →
        ForEach w no_bodies (variable_list news) P (atoms m) i earlier ↔ ForEach w (called w bodies n) (variable_list olds) Q (given_names w bodies given m) i earlier
    each_same _ _ given level (under_none inner) below m i earlier = inner_same given inner m
    each_same _ _ given level (under_more {x} {new} {old} {news} {olds} {p} bound rest) below m i earlier =
        let more : (a : ℕ) → ForEach w no_bodies (variable_list news) P (with_name (atoms m) level (atom a)) i (a ∷ earlier) ↔ ForEach w (called w bodies n) (variable_list olds) Q (with_name (given_names w bodies given m) x (atom a)) i (a ∷ earlier)
        = λ a.
        let same = each_same news olds (Level' x level p given) (level + 1) rest (omega arith, below_more given level below) (with_atom m level a) i (a ∷ earlier) in
        let left = subst (λ (names : Names). ForEach w no_bodies (variable_list news) P names i (a ∷ earlier) ↔ ForEach w (called w bodies n) (variable_list olds) Q (given_names w bodies (Level' x level p given) (with_atom m level a)) i (a ∷ earlier)) (sym (atom_names m level a)) same in
        subst (λ (names : Names). ForEach w no_bodies (variable_list news) P (with_name (atoms m) level (atom a)) i (a ∷ earlier) ↔ ForEach w (called w bodies n) (variable_list olds) Q names i (a ∷ earlier)) (level_names given level x p m a below) left in (
          (λ f a k apart. (more a).0 (f a ((bound.same w m i (a ∷ [])).1 k) apart)),
          (λ f a k apart. (more a).1 (f a ((bound.same w m i (a ∷ [])).0 k) apart)),
        )

-- temporal operators keep what is the same at every position
later_same : (F G : Times) (i : ℕ) → ((j : ℕ) → F j ↔ G j) → SomeLater F i ↔ SomeLater G i
later_same F G i f = ((λ (j, le, k). (j, le, (f j).0 k)), (λ (j, le, k). (j, le, (f j).1 k)))

earlier_same : (F G : Times) (i : ℕ) → ((j : ℕ) → F j ↔ G j) → SomeEarlier F i ↔ SomeEarlier G i
earlier_same F G i f = ((λ (j, le, k). (j, le, (f j).0 k)), (λ (j, le, k). (j, le, (f j).1 k)))

until_same : (F G H K : Times) (i : ℕ) → ((j : ℕ) → F j ↔ H j) → ((j : ℕ) → G j ↔ K j) → UntilAt F G i ↔ UntilAt H K i
until_same F G H K i f g = (
  (λ (j, le, k, all). (j, le, (g j).0 k, λ x low high. (f x).0 (all x low high))),
  (λ (j, le, k, all). (j, le, (g j).1 k, λ x low high. (f x).1 (all x low high))),
)

since_same : (F G H K : Times) (i : ℕ) → ((j : ℕ) → F j ↔ H j) → ((j : ℕ) → G j ↔ K j) → SinceAt F G i ↔ SinceAt H K i
since_same F G H K i f g = (
  (λ (j, le, k, all). (j, le, (g j).0 k, λ x low high. (f x).0 (all x low high))),
  (λ (j, le, k, all). (j, le, (g j).1 k, λ x low high. (f x).1 (all x low high))),
)

happens_same : (op : TemporalUnary) (F G : Times) (i : ℕ) → ((j : ℕ) → F j ↔ G j) → Happens op F i ↔ Happens op G i
happens_same After F G i f = f (i + 1)
happens_same Always F G i f = not_same (later_same (λ j. ¬ F j) (λ j. ¬ G j) i (λ j. not_same (f j)))
happens_same Eventually F G i f = later_same F G i f
happens_same Before F G i f = both_same still (f (i - 1))
happens_same Historically F G i f = not_same (earlier_same (λ j. ¬ F j) (λ j. ¬ G j) i (λ j. not_same (f j)))
happens_same Once F G i f = earlier_same F G i f

happen_both_same : (op : TemporalBinary) (F G H K : Times) (i : ℕ) → ((j : ℕ) → F j ↔ H j) → ((j : ℕ) → G j ↔ K j) → HappenBoth op F G i ↔ HappenBoth op H K i
happen_both_same Until F G H K i f g = until_same F G H K i f g
happen_both_same Releases F G H K i f g = not_same (until_same (λ j. ¬ F j) (λ j. ¬ G j) (λ j. ¬ H j) (λ j. ¬ K j) i (λ j. not_same (f j)) (λ j. not_same (g j)))
happen_both_same Since F G H K i f g = since_same F G H K i f g
happen_both_same Triggered F G H K i f g = not_same (since_same (λ j. ¬ F j) (λ j. ¬ G j) (λ j. ¬ H j) (λ j. ¬ K j) i (λ j. not_same (f j)) (λ j. not_same (g j)))
happen_both_same Then F G H K i f g = both_same (f i) (g (i + 1))

module _ (bodies : List Body) (given : Given) (n : ℕ) where
  -- what a tree says before and after
  abbrev Old : World → (ℕ → Option ℕ) → ℕ → Term → Tuples
  Old w m i e = InTerm w (called w bodies n) e (given_names w bodies given m) i

  abbrev New : World → (ℕ → Option ℕ) → ℕ → Term → Tuples
  New w m i e = InTerm w no_bodies e (atoms m) i

  abbrev Says : Term → Term → Type 0
  Says new old = SameTerm bodies new old given n

  abbrev Holds_same : Claim → Claim → Type 0
  Holds_same new old = SameClaim bodies new old given n

  pub combine_same : (op : RelationOp) (a b c d : Term) → Says a c → Says b d → Says (combine op a b) (combine op c d)
  combine_same op a b c d u v = record { same = λ w m i. combined_same op (New w m i a) (Old w m i c) (New w m i b) (Old w m i d) (u.same w m i) (v.same w m i) }

  pub arrow_same : (left right : Multiplicity) (a b c d : Term) (x y : Multiplicity) → Says a c → Says b d → Says (product a left right b) (product c x y d)
  arrow_same left right a b c d x y u v = record { same = λ w m i. product_same (New w m i a) (Old w m i c) (New w m i b) (Old w m i d) (u.same w m i) (v.same w m i) }

  pub unary_term_same : (op : UnaryRelation) (a c : Term) → Says a c → Says (unary op a) (unary op c)
  unary_term_same op a c u = record { same = λ w m i. unary_same w i i (λ x. still) op (New w m i a) (Old w m i c) (u.same w m i) }

  pub prime_same : (a c : Term) → Says a c → Says (prime a) (prime c)
  prime_same a c u = record { same = λ w m i. u.same w m (i + 1) }

  pub choose_term_same : (f g : Claim) (a b c d : Term) → Holds_same f g → Says a c → Says b d → Says (choose_term f a b) (choose_term g c d)
  choose_term_same f g a b c d h u v = record { same = λ w m i t. either_same (both_same (h.same w m i) (u.same w m i t)) (both_same (not_same (h.same w m i)) (v.same w m i t)) }

  pub count_term_same : (a c : Term) → Says a c → Says (count a) (count c)
  count_term_same a c u = record {
    same = λ w m i t. (
      (λ (k, l, e). (k, (count_same w (New w m i a) (Old w m i c) (u.same w m i) k).0 l, e)),
      (λ (k, l, e). (k, (count_same w (New w m i a) (Old w m i c) (u.same w m i) k).1 l, e)),
    );
  }

  pub arithmetic_same : (op : IntOp) (a b c d : Term) → Says a c → Says b d → Says (arithmetic op a b) (arithmetic op c d)
  arithmetic_same op a b c d u v = record {
    same = λ w m i t. (
      (λ (x, y, k, l, e). (x, y, (number_same w (New w m i a) (Old w m i c) (u.same w m i) x).0 k, (number_same w (New w m i b) (Old w m i d) (v.same w m i) y).0 l, e)),
      (λ (x, y, k, l, e). (x, y, (number_same w (New w m i a) (Old w m i c) (u.same w m i) x).1 k, (number_same w (New w m i b) (Old w m i d) (v.same w m i) y).1 l, e)),
    );
  }

  -- a `let` value is looked up where it is used
  pub let_term_same : (x : ℕ) (p : _) (e : _) (new b : Term) → SameTerm bodies new b (Written' x n e p given) n → Says new (let_term x (term_of e.now) b)
  let_term_same x p e new b u = record { same = u.same }

  pub let_claim_same : (x : ℕ) (p : _) (e : _) (new b : Claim) → SameClaim bodies new b (Written' x n e p given) n → Holds_same new (let_claim x (term_of e.now) b)
  let_claim_same x p e new b u = record { same = u.same }

  pub inside_claim_same : (a b c d : Term) → Says a c → Says b d → Holds_same (inside a b) (inside c d)
  inside_claim_same a b c d u v = record { same = λ w m i. inside_same (New w m i a) (Old w m i c) (New w m i b) (Old w m i d) (u.same w m i) (v.same w m i) }

  pub equal_claim_same : (a b c d : Term) → Says a c → Says b d → Holds_same (equal a b) (equal c d)
  equal_claim_same a b c d u v = record { same = λ w m i. equal_same (New w m i a) (Old w m i c) (New w m i b) (Old w m i d) (u.same w m i) (v.same w m i) }

  pub test_claim_same : (q : Quantity) (a c : Term) → Says a c → Holds_same (test q a) (test q c)
  test_claim_same q a c u = record { same = λ w m i. quantity_same q (New w m i a) (Old w m i c) (u.same w m i) }

  pub compare_claim_same : (op : Comparison) (a b c d : Term) → Says a c → Says b d → Holds_same (compare op a b) (compare op c d)
  compare_claim_same op a b c d u v = record { same = λ w m i. compare_same w op (New w m i a) (Old w m i c) (New w m i b) (Old w m i d) (u.same w m i) (v.same w m i) }

  pub negation_same : (f g : Claim) → Holds_same f g → Holds_same (negation f) (negation g)
  negation_same f g u = record { same = λ w m i. not_same (u.same w m i) }

  pub connect_same : (op : Connective) (f g h k : Claim) → Holds_same f h → Holds_same g k → Holds_same (connect op f g) (connect op h k)
  connect_same op f g h k u v = record { same = λ w m i. connects_same op (u.same w m i) (v.same w m i) }

  pub choose_claim_same : (f g h k l o : Claim) → Holds_same f k → Holds_same g l → Holds_same h o → Holds_same (choose_claim f g h) (choose_claim k l o)
  choose_claim_same f g h k l o u v x = record { same = λ w m i. chooses_same (u.same w m i) (v.same w m i) (x.same w m i) }

  pub temporal_same : (op : TemporalUnary) (f g : Claim) → Holds_same f g → Holds_same (temporal op f) (temporal op g)
  temporal_same op f g u = record { same = λ w m i. happens_same op (λ j. Holds w no_bodies f (atoms m) j) (λ j. Holds w (called w bodies n) g (given_names w bodies given m) j) i (λ j. u.same w m j) }

  pub temporal_pair_same : (op : TemporalBinary) (f g h k : Claim) → Holds_same f h → Holds_same g k → Holds_same (temporal_pair op f g) (temporal_pair op h k)
  temporal_pair_same op f g h k u v = record { same = λ w m i. happen_both_same op (λ j. Holds w no_bodies f (atoms m) j) (λ j. Holds w no_bodies g (atoms m) j) (λ j. Holds w (called w bodies n) h (given_names w bodies given m) j) (λ j. Holds w (called w bodies n) k (given_names w bodies given m) j) i (λ j. u.same w m j) (λ j. v.same w m j) }

  -- under variables
  pub for_all_same : (news olds : List Binder) (f g : Claim) (level : ℕ) → Binds bodies n (λ inner. SameClaim bodies f g inner n) news olds given level → IsBelow given level → Holds_same (for_all (variable_list news) f) (for_all (variable_list olds) g)
  for_all_same news olds f g level binds below = record { same = λ w m i. each_same w bodies n (λ inner. SameClaim bodies f g inner n) (λ names. Holds w no_bodies f names i) (λ names. Holds w (called w bodies n) g names i) (λ inner u k. u.same w k i) news olds given level binds below m i [] }

  pub counted_same : (q : Quantity) (news olds : List Binder) (f g : Claim) (level : ℕ) → Binds bodies n (λ inner. SameClaim bodies f g inner n) news olds given level → IsBelow given level → Holds_same (counted q (variable_list news) f) (counted q (variable_list olds) g)
  counted_same q news olds f g level binds below = record {
    same = λ w m i. quantified_same q
        (ForEach w no_bodies (variable_list news) (λ names. ¬ Holds w no_bodies f names i) (atoms m) i [])
        (ForEach w (called w bodies n) (variable_list olds) (λ names. ¬ Holds w (called w bodies n) g names i) (given_names w bodies given m) i [])
        (Picked w no_bodies (variable_list news) (λ names. Holds w no_bodies f names i) (atoms m) i [])
        (Picked w (called w bodies n) (variable_list olds) (λ names. Holds w (called w bodies n) g names i) (given_names w bodies given m) i [])
        (each_same w bodies n (λ inner. SameClaim bodies f g inner n) (λ names. ¬ Holds w no_bodies f names i) (λ names. ¬ Holds w (called w bodies n) g names i) (λ inner u k. not_same (u.same w k i)) news olds given level binds below m i [])
        (picked_same w bodies n (λ inner. SameClaim bodies f g inner n) (λ names. Holds w no_bodies f names i) (λ names. Holds w (called w bodies n) g names i) (λ inner u k. u.same w k i) news olds given level binds below m i []);
  }

  pub comprehension_same : (news olds : List Binder) (f g : Claim) (level : ℕ) → Binds bodies n (λ inner. SameClaim bodies f g inner n) news olds given level → IsBelow given level → Says (comprehension (variable_list news) f) (comprehension (variable_list olds) g)
  comprehension_same news olds f g level binds below = record { same = λ w m i. picked_same w bodies n (λ inner. SameClaim bodies f g inner n) (λ names. Holds w no_bodies f names i) (λ names. Holds w (called w bodies n) g names i) (λ inner u k. u.same w k i) news olds given level binds below m i [] }

  pub sum_over_same : (news olds : List Binder) (a c : Term) (level : ℕ) → Binds bodies n (λ inner. SameTerm bodies a c inner n) news olds given level → IsBelow given level → Says (sum_over (variable_list news) a) (sum_over (variable_list olds) c)
  sum_over_same news olds a c level binds below = record {
    same = λ w m i t.
        let inner_same = λ (names : Names) (x : ℤ). IsNumber w (InTerm w no_bodies a names i) x in
        let old_same = λ (names : Names) (x : ℤ). IsNumber w (InTerm w (called w bodies n) c names i) x in
        let sums = sum_same w
        (Picked w no_bodies (variable_list news) (λ names. Unit {0}) (atoms m) i [])
        (Picked w (called w bodies n) (variable_list olds) (λ names. Unit {0}) (given_names w bodies given m) i [])
        (λ u x. Picked w no_bodies (variable_list news) (λ names. inner_same names x) (atoms m) i [] u)
        (λ u x. Picked w (called w bodies n) (variable_list olds) (λ names. old_same names x) (given_names w bodies given m) i [] u)
        (picked_same w bodies n (λ inner. SameTerm bodies a c inner n) (λ names. Unit {0}) (λ names. Unit {0}) (λ inner u k. still) news olds given level binds below m i [])
        (λ u x. picked_same w bodies n (λ inner. SameTerm bodies a c inner n) (λ names. inner_same names x) (λ names. old_same names x)
        (λ inner v k. number_same w (InTerm w no_bodies a (atoms k) i) (InTerm w (called w bodies n) c (given_names w bodies inner k) i) (v.same w k i) x) news olds given level binds below m i [] u) in
        ((λ (k, l, e). (k, (sums k).0 l, e)), (λ (k, l, e). (k, (sums k).1 l, e)));
  }

  -- bounds
  pub bound_says : (new old : Term) → SameBound bodies given n new old → Says new old
  bound_says _ _ (bound_arrow {a} {b} {c} {d} {left} {right} u v) = arrow_same left right a b c d left right (bound_says a c u) (bound_says b d v)
  bound_says _ _ (bound_leaf no_arrow plain u) = u

  module _ (w : World) (b : Bodies) (names : Names) (i : ℕ) where
    -- what has no arrow with a multiplicity fits whatever it bounds
    plain_fits : (e : Term) → IsPlain e → (E : Tuples) → Fits w b e names i E
    plain_fits (product a m o c) plain E = (
      (λ s k. (subst (λ x. HasMultiplicity x (λ u. E (s ++ u))) (sym plain.1) tt, plain_fits c plain.3 (λ u. E (s ++ u)))),
      (λ u k. (subst (λ x. HasMultiplicity x (λ s. E (s ++ u))) (sym plain.0) tt, plain_fits a plain.2 (λ s. E (s ++ u)))),
    )
    plain_fits e plain E = tt

    leaf_fits : (e : Term) → IsNoArrow e → (E : Tuples) → Fits w b e names i E
    leaf_fits (product a m o c) leaf E = absurd leaf
    leaf_fits e leaf E = tt

  bound_fits : (w : World) (m : ℕ → Option ℕ) (i : ℕ) (new old : Term) → SameBound bodies given n new old → (E F : Tuples) → SameTuples E F → Fits w no_bodies new (atoms m) i E ↔ Fits w (called w bodies n) old (given_names w bodies given m) i F
  bound_fits w m i _ _ (bound_arrow {a} {b} {c} {d} {left} {right} u v) E F same = (
    (λ fits. (
      (λ s k.
          let found = fits.0 s (((bound_says a c u).same w m i s).1 k) in
          ((multiplicity_same right (λ t. E (s ++ t)) (λ t. F (s ++ t)) (λ t. same (s ++ t))).0 found.0, (bound_fits w m i b d v (λ t. E (s ++ t)) (λ t. F (s ++ t)) (λ t. same (s ++ t))).0 found.1)),
      (λ t k.
          let found = fits.1 t (((bound_says b d v).same w m i t).1 k) in
          ((multiplicity_same left (λ s. E (s ++ t)) (λ s. F (s ++ t)) (λ s. same (s ++ t))).0 found.0, (bound_fits w m i a c u (λ s. E (s ++ t)) (λ s. F (s ++ t)) (λ s. same (s ++ t))).0 found.1)),
    )),
    (λ fits. (
      (λ s k.
          let found = fits.0 s (((bound_says a c u).same w m i s).0 k) in
          ((multiplicity_same right (λ t. E (s ++ t)) (λ t. F (s ++ t)) (λ t. same (s ++ t))).1 found.0, (bound_fits w m i b d v (λ t. E (s ++ t)) (λ t. F (s ++ t)) (λ t. same (s ++ t))).1 found.1)),
      (λ t k.
          let found = fits.1 t (((bound_says b d v).same w m i t).0 k) in
          ((multiplicity_same left (λ s. E (s ++ t)) (λ s. F (s ++ t)) (λ s. same (s ++ t))).1 found.0, (bound_fits w m i a c u (λ s. E (s ++ t)) (λ s. F (s ++ t)) (λ s. same (s ++ t))).1 found.1)),
    )),
  )
  bound_fits w m i new old (bound_leaf leaf plain u) E F same = (
    (λ fits. leaf_fits w (called w bodies n) (given_names w bodies given m) i old leaf F),
    (λ fits. plain_fits w no_bodies (atoms m) i new plain E),
  )

  pub within_claim_same : (word : Multiplicity) (a b c d : Term) → Says a c → SameBound bodies given n b d → Holds_same (within a word b) (within c word d)
  within_claim_same word a b c d u v = record {
    same = λ w m i.
        let f = inside_same (New w m i a) (Old w m i c) (New w m i b) (Old w m i d) (u.same w m i) ((bound_says b d v).same w m i) in
        let g = multiplicity_same word (New w m i a) (Old w m i c) (u.same w m i) in
        let h = bound_fits w m i b d v (New w m i a) (Old w m i c) (u.same w m i) in
        ((λ x. (f.0 x.0, g.0 x.1, h.0 x.2)), (λ x. (f.1 x.0, g.1 x.1, h.1 x.2)));
  }
