-- Quantifiers over several variables have the same truth with one variable at a time.
use Rattle.std.proofs.Common.{◌≡◌, ◌≢◌, ◌↔◌, ℕ, zero, suc, ◌<◌, ◌≤◌, Bool, true, false, eqb, ◌&&◌, List, [], ◌∷◌, take, length, All, refl, sym, ◌∙◌, ap, subst, arith, inl, inr}
use Rattle.std.proofs.lemmas.Bool.{cases_lt, cond_below, cond_above, cond_both, eq-eqb, ne_eqb}
use Rattle.std.proofs.lemmas.Bool.Decides.{eqb_tells}
use Rattle.std.proofs.lemmas.List.Elements.{All-cons}
use Rattle.core_tree.specs.declared.operators.Quantity.{Quantity}
use Rattle.core_tree.specs.declared.operators.Quantity.TheVariants.{Some, No, One, Lone}
use Rattle.core_tree.specs.declared.operators.RelationOp.TheVariants.{Difference}
use Rattle.core_tree.specs.Trees.{Term, Claim, Binder, name, combine, comprehension, test, negation, for_all, counted, variable_list}
use Rattle.core_meaning.specs.World.{World}
use Rattle.core_meaning.specs.Operators.{Tuples, HasSome, IsLone}
use Rattle.core_meaning.specs.Meaning.{Names, one_of, with_name, atom, IsApart, InTerm, Picked, ForEach, Holds}
use Rattle.core_meaning.specs.Called.{no_bodies}
use Rattle.core_window.proofs.SameLemmas.{both_same, not_same, lone_same, same_trans}
use Rattle.form_kernel.specs.Operators.{both}
use Rattle.form_kernel.specs.Single.{without, alone, is_rising, one_by_one, under, lone_values, are_many, lone_by_one, are_many_rising, counting}
use Rattle.form_kernel.proofs.Operators.{still, both_is}

-- lists of numbers
abbrev first_or : ℕ → List ℕ → ℕ
first_or d [] = d
first_or d (x ∷ xs) = x

abbrev rest_of : List ℕ → List ℕ
rest_of [] = []
rest_of (x ∷ xs) = xs

same_first : (a b : ℕ) (s t : List ℕ) → a ∷ s ≡ b ∷ t → a ≡ b
same_first a b s t e = ap (first_or 0) e

same_rest : (a b : ℕ) (s t : List ℕ) → a ∷ s ≡ b ∷ t → s ≡ t
same_rest a b s t e = ap rest_of e

-- `true` isn't `false`
abbrev Marks : Bool → Type 0
Marks true = Unit {0}
Marks false = ⊥

apart_bools : true ≡ false → ⊥
apart_bools e = subst Marks e tt

-- numbers and lists of numbers that aren't different are equal
stable : (a b : ℕ) → ¬ (a ≢ b) → a ≡ b
stable a b n = elim (eqb_tells a b) [
  | inl yes_equal ↦ yes_equal.1
  | inr other ↦ absurd (n other.1)
]

stable_lists : (s t : List ℕ) → ¬ (s ≢ t) → s ≡ t
stable_lists [] [] n = refl
stable_lists [] (y ∷ t) n = absurd (n (λ e. let low : 0 ≡ suc (length t) = ap length e in omega (arith, low)))
stable_lists (x ∷ s) [] n = absurd (n (λ e. let low : suc (length s) ≡ 0 = ap length e in omega (arith, low)))
stable_lists (x ∷ s) (y ∷ t) n =
    let heads : x ≡ y = stable x y (λ other. n (λ e. other (same_first x y s t e))) in
    let tails : s ≡ t = stable_lists s t (λ other. n (λ e. other (same_rest x y s t e))) in
    subst (λ z. x ∷ s ≡ z ∷ t) heads (ap (λ r. x ∷ r) tails)

and_right : (b c : Bool) → b && c ≡ true → c ≡ true
and_right true c e = e
and_right false c e = absurd (apart_bools (sym e))

-- conditions on the front of a list
all_none : (P : ℕ → Type 0) (xs : List ℕ) → All P (take 0 xs)
all_none P [] k d lt = absurd (omega (arith, lt))
all_none P (x ∷ xs) k d lt = absurd (omega (arith, lt))

all_of_none : (P : ℕ → Type 0) (n : ℕ) → All P (take n [])
all_of_none P zero k d lt = absurd (omega (arith, lt))
all_of_none P (suc n) k d lt = absurd (omega (arith, lt))

all_head : (P : ℕ → Type 0) (x : ℕ) (xs : List ℕ) → All P (x ∷ xs) → P x
all_head P x xs all = all zero x (omega arith)

all_tail : (P : ℕ → Type 0) (x : ℕ) (xs : List ℕ) → All P (x ∷ xs) → All P xs
all_tail P x xs all k d lt = all (suc k) d (omega (arith, lt))

-- names that rise
rising_head : (least : ℕ) (v : Binder) (vs : List Binder) → is_rising least (v ∷ vs) ≡ true → least ≤ v.name
rising_head least v vs e = elim (cases_lt v.name least) [
  | inl below ↦ absurd (apart_bools (sym (cond_below v.name least false (is_rising (suc v.name) vs) below ∙ e)))
  | inr above ↦ above
]

rising_rest : (least : ℕ) (v : Binder) (vs : List Binder) → is_rising least (v ∷ vs) ≡ true → is_rising (suc v.name) vs ≡ true
rising_rest least v vs e =
    let above = rising_head least v vs e in
    subst (λ (b : Bool). b ≡ true) (sym (cond_above v.name least false (is_rising (suc v.name) vs) (is_rising (suc v.name) vs) above refl)) e

module _ (w : World) where
  abbrev At : Claim → ℕ → Names → Type 0
  At f i names = Holds w no_bodies f names i

  abbrev Fails : Claim → ℕ → Names → Type 0
  Fails f i names = ¬ Holds w no_bodies f names i

  -- none of the names stands for the tuple
  abbrev Misses : List ℕ → Names → ℕ → Tuples
  Misses [] names i t = Unit {0}
  Misses (x ∷ xs) names i t = (¬ names x i t) × Misses xs names i t

  without_is : (xs : List ℕ) (e : Term) (names : Names) (i : ℕ) (t : List ℕ) → InTerm w no_bodies (without e xs) names i t ↔ (InTerm w no_bodies e names i t × Misses xs names i t)
  without_is [] e names i t = ((λ x. (x, tt)), (λ x. x.0))
  without_is (x ∷ xs) e names i t =
      let h = without_is xs (combine Difference e (name x)) names i t in
      ((λ k. let p = h.0 k in (p.0.0, (p.0.1, p.1))), (λ k. h.1 ((k.0, k.1.0), k.1.1)))

  -- the names before, the latest first, are below `least` and stand for the atoms before
  abbrev Knows : List ℕ → List ℕ → Names → ℕ → ℕ → Type 0
  Knows [] [] names i least = Unit {0}
  Knows [] (b ∷ bs) names i least = ⊥
  Knows (x ∷ xs) [] names i least = ⊥
  Knows (x ∷ xs) (b ∷ bs) names i least = ((x < least) × ((t : List ℕ) → names x i t ↔ (t ≡ b ∷ []))) × Knows xs bs names i least

  apart_is : (n : ℕ) (before earlier : List ℕ) (names : Names) (i least a : ℕ) → Knows before earlier names i least → Misses (take n before) names i (a ∷ []) ↔ IsApart n a earlier
  apart_is zero [] [] names i least a known = ((λ x. all_none (λ b. a ≢ b) []), (λ x. tt))
  apart_is (suc n) [] [] names i least a known = ((λ x. all_of_none (λ b. a ≢ b) (suc n)), (λ x. tt))
  apart_is n [] (b ∷ bs) names i least a known = absurd known
  apart_is n (x ∷ xs) [] names i least a known = absurd known
  apart_is zero (x ∷ xs) (b ∷ bs) names i least a known = ((λ k. all_none (λ c. a ≢ c) (b ∷ bs)), (λ k. tt))
  apart_is (suc n) (x ∷ xs) (b ∷ bs) names i least a known =
      let h = apart_is n xs bs names i least a known.1 in
      let one : (¬ names x i (a ∷ [])) ↔ (a ≢ b) = not_same (same_trans (known.0.1 (a ∷ [])) ((λ e. same_first a b [] [] e), (λ e. ap (λ c. c ∷ []) e))) in (
        (λ k. All-cons (λ c. a ≢ c) b (take n bs) (one.0 k.0) (h.0 k.1)),
        (λ k. (one.1 (all_head (λ c. a ≢ c) b (take n bs) k), h.1 (all_tail (λ c. a ≢ c) b (take n bs) k))),
      )

  -- with one variable more
  one_is : (b : Bool) (A B : Tuples) (t : List ℕ) → b ≡ true → one_of b A B t ↔ A t
  one_is true A B t e = still
  one_is false A B t e = absurd (apart_bools (sym e))

  other_is : (b : Bool) (A B : Tuples) (t : List ℕ) → b ≡ false → one_of b A B t ↔ B t
  other_is false A B t e = still
  other_is true A B t e = absurd (apart_bools e)

  knows_still : (xs bs : List ℕ) (names : Names) (i least x a : ℕ) → least ≤ x → Knows xs bs names i least → Knows xs bs (with_name names x (atom a)) i (suc x)
  knows_still [] [] names i least x a le known = tt
  knows_still [] (b ∷ bs) names i least x a le known = known
  knows_still (y ∷ ys) [] names i least x a le known = known
  knows_still (y ∷ ys) (b ∷ bs) names i least x a le known =
      let low : y < least = known.0.0 in
      let other : eqb y x ≡ false = ne_eqb y x (λ e. omega (arith, low, le, e)) in
      ((omega (arith, low, le), (λ t. same_trans (other_is (eqb y x) (atom a i) (names y i) t other) (known.0.1 t))), knows_still ys bs names i least x a le known.1)

  knows_more : (xs bs : List ℕ) (names : Names) (i least x a : ℕ) → least ≤ x → Knows xs bs names i least → Knows (x ∷ xs) (a ∷ bs) (with_name names x (atom a)) i (suc x)
  knows_more xs bs names i least x a le known =
      ((omega arith, (λ t. one_is (eqb x x) (atom a i) (names x i) t (eq-eqb x x refl))), knows_still xs bs names i least x a le known)

  module _ (P : Names → Type 0) (i : ℕ) where
    -- variables by themselves, whatever atoms stand before
    picked_alone : (vs : List Binder) (before earlier : List ℕ) (names : Names) (least : ℕ) (others t : List ℕ) → Knows before earlier names i least → is_rising least vs ≡ true → Picked w no_bodies (variable_list (alone before vs)) P names i others t ↔ Picked w no_bodies (variable_list vs) P names i earlier t
    picked_alone [] before earlier names least others t known rises = still
    picked_alone (v ∷ vs) before earlier names least others t known rises =
        let low = rising_head least v vs rises in
        let step : (a : ℕ) (u : List ℕ) → Picked w no_bodies (variable_list (alone (v.name ∷ before) vs)) P (with_name names v.name (atom a)) i (a ∷ others) u ↔ Picked w no_bodies (variable_list vs) P (with_name names v.name (atom a)) i (a ∷ earlier) u
        = λ a u. picked_alone vs (v.name ∷ before) (a ∷ earlier) (with_name names v.name (atom a)) (suc v.name) (a ∷ others) u (knows_more before earlier names i least v.name a low known) (rising_rest least v vs rises) in
        let here : (a : ℕ) → InTerm w no_bodies (without v.bound (take v.apart before)) names i (a ∷ []) ↔ (InTerm w no_bodies v.bound names i (a ∷ []) × IsApart v.apart a earlier)
        = λ a. same_trans (without_is (take v.apart before) v.bound names i (a ∷ [])) (both_same still (apart_is v.apart before earlier names i least a known)) in (
          (λ (a, u, is, k, apart, r). let p = (here a).0 k in (a, u, is, p.0, p.1, (step a u).0 r)),
          (λ (a, u, is, k, apart, r). (a, u, is, (here a).1 (k, apart), all_none (λ b. a ≢ b) others, (step a u).1 r)),
        )

    each_alone : (vs : List Binder) (before earlier : List ℕ) (names : Names) (least : ℕ) (others : List ℕ) → Knows before earlier names i least → is_rising least vs ≡ true → ForEach w no_bodies (variable_list (alone before vs)) P names i others ↔ ForEach w no_bodies (variable_list vs) P names i earlier
    each_alone [] before earlier names least others known rises = still
    each_alone (v ∷ vs) before earlier names least others known rises =
        let low = rising_head least v vs rises in
        let step : (a : ℕ) → ForEach w no_bodies (variable_list (alone (v.name ∷ before) vs)) P (with_name names v.name (atom a)) i (a ∷ others) ↔ ForEach w no_bodies (variable_list vs) P (with_name names v.name (atom a)) i (a ∷ earlier)
        = λ a. each_alone vs (v.name ∷ before) (a ∷ earlier) (with_name names v.name (atom a)) (suc v.name) (a ∷ others) (knows_more before earlier names i least v.name a low known) (rising_rest least v vs rises) in
        let here : (a : ℕ) → InTerm w no_bodies (without v.bound (take v.apart before)) names i (a ∷ []) ↔ (InTerm w no_bodies v.bound names i (a ∷ []) × IsApart v.apart a earlier)
        = λ a. same_trans (without_is (take v.apart before) v.bound names i (a ∷ [])) (both_same still (apart_is v.apart before earlier names i least a known)) in (
          (λ f a k apart. (step a).0 (f a ((here a).1 (k, apart)) (all_none (λ b. a ≢ b) others))),
          (λ f a k apart. let p = (here a).0 k in (step a).1 (f a p.0 p.1)),
        )

    -- atoms that stand before don't count for variables by themselves
    picked_free : (vs : List Binder) (before : List ℕ) (names : Names) (some others t : List ℕ) → Picked w no_bodies (variable_list (alone before vs)) P names i some t → Picked w no_bodies (variable_list (alone before vs)) P names i others t
    picked_free [] before names some others t h = h
    picked_free (v ∷ vs) before names some others t (a, u, is, k, apart, r) = (a, u, is, k, all_none (λ b. a ≢ b) others, picked_free vs (v.name ∷ before) (with_name names v.name (atom a)) (a ∷ some) (a ∷ others) u r)

    -- no choice passes just where each fails
    picked_not_each : (vs : List Binder) (names : Names) (earlier t : List ℕ) → Picked w no_bodies (variable_list vs) P names i earlier t → ¬ ForEach w no_bodies (variable_list vs) (λ inner. ¬ P inner) names i earlier
    picked_not_each [] names earlier t (is, p) fails = fails p
    picked_not_each (v ∷ vs) names earlier t (a, u, is, k, apart, r) fails = picked_not_each vs (with_name names v.name (atom a)) (a ∷ earlier) u r (fails a k apart)

    each_not_picked : (vs : List Binder) (names : Names) (earlier : List ℕ) → ((t : List ℕ) → ¬ Picked w no_bodies (variable_list vs) P names i earlier t) → ForEach w no_bodies (variable_list vs) (λ inner. ¬ P inner) names i earlier
    each_not_picked [] names earlier no_pick = λ p. no_pick [] (refl, p)
    each_not_picked (v ∷ vs) names earlier no_pick = λ a k apart. each_not_picked vs (with_name names v.name (atom a)) (a ∷ earlier) (λ u r. no_pick (a ∷ u) (a, u, refl, k, apart, r))

  -- `all` with one variable after another
  each_one_by_one : (vs : List Binder) (before : List ℕ) (f : Claim) (names : Names) (i : ℕ) (others : List ℕ) → Holds w no_bodies (one_by_one (alone before vs) f) names i ↔ ForEach w no_bodies (variable_list (alone before vs)) (At f i) names i others
  each_one_by_one [] before f names i others = still
  each_one_by_one (v ∷ vs) before f names i others =
      let step : (a : ℕ) → Holds w no_bodies (one_by_one (alone (v.name ∷ before) vs) f) (with_name names v.name (atom a)) i ↔ ForEach w no_bodies (variable_list (alone (v.name ∷ before) vs)) (At f i) (with_name names v.name (atom a)) i (a ∷ others)
      = λ a. each_one_by_one vs (v.name ∷ before) f (with_name names v.name (atom a)) i (a ∷ others) in (
        (λ h a k apart. (step a).0 (h a k (all_none (λ b. a ≢ b) []))),
        (λ h a k apart. (step a).1 (h a k (all_none (λ b. a ≢ b) others))),
      )

  pub under_is : (vs : List Binder) (f : Claim) (names : Names) (i : ℕ) → Holds w no_bodies (under vs f) names i ↔ Holds w no_bodies (for_all (variable_list vs) f) names i
  under_is vs f names i = cond_both (is_rising 0 vs) (one_by_one (alone [] vs) f) (for_all (variable_list vs) f) (λ c. Holds w no_bodies c names i ↔ Holds w no_bodies (for_all (variable_list vs) f) names i)
      (λ rises. same_trans (each_one_by_one vs [] f names i []) (each_alone (At f i) i vs [] [] names 0 [] tt rises))
      (λ rises. still)

  -- at most one choice of values for variables by themselves
  lone_free : (vs : List Binder) (before : List ℕ) (f : Claim) (names : Names) (i : ℕ) (others : List ℕ) → Holds w no_bodies (lone_values (alone before vs) f) names i ↔ IsLone (Picked w no_bodies (variable_list (alone before vs)) (At f i) names i others)
  lone_free vs before f names i others = lone_same (Picked w no_bodies (variable_list (alone before vs)) (At f i) names i []) (Picked w no_bodies (variable_list (alone before vs)) (At f i) names i others)
      (λ t. (picked_free (At f i) i vs before names [] others t, picked_free (At f i) i vs before names others [] t))

  module _ (v : Binder) (vs : List Binder) (before : List ℕ) (f : Claim) (names : Names) (i : ℕ) (others : List ℕ) where
    abbrev bound_here : Term
    bound_here = without v.bound (take v.apart before)

    abbrev later : List Binder
    later = alone (v.name ∷ before) vs

    abbrev with_value : ℕ → Names
    with_value a = with_name names v.name (atom a)

    abbrev goes_on : Claim
    goes_on = negation (one_by_one later (negation f))

    abbrev first_alone : List Binder
    first_alone = record { name = v.name; apart = 0; bound = bound_here } ∷ []

    -- the values of the first variable for which there are values of the others
    abbrev First : Tuples
    First = Picked w no_bodies (variable_list first_alone) (At goes_on i) names i []

    -- the values of all variables
    abbrev All_values : Tuples
    All_values = Picked w no_bodies (variable_list (alone before (v ∷ vs))) (At f i) names i others

    abbrev Later_values : ℕ → Tuples
    Later_values a = Picked w no_bodies (variable_list later) (At f i) (with_value a) i (a ∷ others)

    first_of : (a : ℕ) (u : List ℕ) → InTerm w no_bodies bound_here names i (a ∷ []) → Later_values a u → First (a ∷ [])
    first_of a u k r = (
      a,
      [],
      refl,
      k,
      all_none (λ b. a ≢ b) [],
      (
        refl,
        λ all. picked_not_each (At f i) i later (with_value a) (a ∷ others) u r ((each_one_by_one vs (v.name ∷ before) (negation f) (with_value a) i (a ∷ others)).0 all),
      ),
    )

    lone_joined : (a b : ℕ) (u x : List ℕ) → a ≡ b → IsLone (Later_values a) → Later_values a u → Later_values b x → a ∷ u ≡ b ∷ x
    lone_joined a b u x e lone r q =
        let same : u ≡ x = lone u x r (subst (λ c. Later_values c x) (sym e) q) in
        subst (λ c. a ∷ u ≡ c ∷ x) e (ap (λ s. a ∷ s) same)

    lone_all : IsLone First → ((a : ℕ) → InTerm w no_bodies bound_here names i (a ∷ []) → IsLone (Later_values a)) → IsLone All_values
    lone_all first each s t (a, u, is, k, apart, r) (b, x, same, l, apart_b, q) =
        let e : a ≡ b = same_first a b [] [] (first (a ∷ []) (b ∷ []) (first_of a u k r) (first_of b x l q)) in
        let one : a ∷ u ≡ b ∷ x = lone_joined a b u x e (each a k) r q in
        subst (λ c. c ≡ t) (sym is) (subst (λ c. a ∷ u ≡ c) (sym same) one)

    in_all : (a : ℕ) (u : List ℕ) → InTerm w no_bodies bound_here names i (a ∷ []) → Later_values a u → All_values (a ∷ u)
    in_all a u k r = (a, u, refl, k, all_none (λ b. a ≢ b) others, r)

    lone_each : IsLone All_values → (a : ℕ) → InTerm w no_bodies bound_here names i (a ∷ []) → IsLone (Later_values a)
    lone_each lone a k u x r q = same_rest a a u x (lone (a ∷ u) (a ∷ x) (in_all a u k r) (in_all a x k q))

    -- two values for which there are others can't differ
    goes_on_is : (a : ℕ) → Holds w no_bodies goes_on (with_value a) i → ¬ ((u : List ℕ) → ¬ Later_values a u)
    goes_on_is a q nothing = q ((each_one_by_one vs (v.name ∷ before) (negation f) (with_value a) i (a ∷ others)).1 (each_not_picked (At f i) i later (with_value a) (a ∷ others) nothing))

    lone_first : IsLone All_values → IsLone First
    lone_first lone s t (a, u, is, k, apart, r) (b, x, same, l, apart_b, q) =
        let e : a ≡ b = stable a b (λ other. goes_on_is a r.1 (λ c d. goes_on_is b q.1 (λ g h. other (same_first a b c g (lone (a ∷ c) (b ∷ g) (in_all a c k d) (in_all b g l h)))))) in
        let left : s ≡ a ∷ [] = subst (λ c. s ≡ a ∷ c) r.0 is in
        let right : t ≡ b ∷ [] = subst (λ c. t ≡ b ∷ c) q.0 same in
        subst (λ c. c ≡ t) (sym left) (subst (λ c. a ∷ [] ≡ c) (sym right) (ap (λ c. c ∷ []) e))

  lone_one_by_one : (vs : List Binder) (before : List ℕ) (f : Claim) (names : Names) (i : ℕ) (others : List ℕ) → Holds w no_bodies (lone_by_one (alone before vs) f) names i ↔ IsLone (Picked w no_bodies (variable_list (alone before vs)) (At f i) names i others)
  lone_one_by_one [] before f names i others = lone_free [] before f names i others
  lone_one_by_one (v ∷ vs) before f names i others =
      let step : (a : ℕ) → Holds w no_bodies (lone_by_one (alone (v.name ∷ before) vs) f) (with_name names v.name (atom a)) i ↔ IsLone (Later_values v vs before f names i others a)
      = λ a. lone_one_by_one vs (v.name ∷ before) f (with_name names v.name (atom a)) i (a ∷ others) in
      cond_both (are_many (alone before (v ∷ vs)))
      (both (lone_values (first_alone v vs before f names i others) (goes_on v vs before f names i others)) (for_all (variable_list (first_alone v vs before f names i others)) (lone_by_one (later v vs before f names i others) f)))
      (lone_values (alone before (v ∷ vs)) f)
      (λ c. Holds w no_bodies c names i ↔ IsLone (All_values v vs before f names i others))
      (λ many. (
        (λ h. lone_all v vs before f names i others h.0 (λ a k. (step a).0 (h.1.0 a k (all_none (λ b. a ≢ b) [])))),
        (λ lone. (lone_first v vs before f names i others lone, ((λ a k apart. (step a).1 (lone_each v vs before f names i others lone a k)), tt))),
      ))
      (λ few. lone_free (v ∷ vs) before f names i others)

  -- quantifiers that count
  lone_many : (vs : List Binder) (f : Claim) (names : Names) (i : ℕ) → are_many_rising vs ≡ true → Holds w no_bodies (lone_by_one (alone [] vs) f) names i ↔ IsLone (Picked w no_bodies (variable_list vs) (At f i) names i [])
  lone_many vs f names i many = same_trans (lone_one_by_one vs [] f names i []) (lone_same (Picked w no_bodies (variable_list (alone [] vs)) (At f i) names i []) (Picked w no_bodies (variable_list vs) (At f i) names i [])
      (λ t. picked_alone (At f i) i vs [] [] names 0 [] t tt (and_right (are_many vs) (is_rising 0 vs) many)))

  one_few : (vs : List Binder) (f : Claim) (names : Names) (i : ℕ) → (¬ ¬ (HasSome (Picked w no_bodies (variable_list vs) (At f i) names i []) × IsLone (Picked w no_bodies (variable_list vs) (At f i) names i []))) ↔ Holds w no_bodies (counted One (variable_list vs) f) names i
  one_few vs f names i = (
    (λ there. (
      (λ fails. there (λ h. picked_not_each (At f i) i vs names [] h.0.0 h.0.1 fails)),
      (λ s t x y. stable_lists s t (λ other. there (λ h. other (h.1 s t x y)))),
    )),
    (λ h none. h.0 (each_not_picked (At f i) i vs names [] (λ t x. none ((t, x), h.1)))),
  )

  pub counting_is : (q : Quantity) (vs : List Binder) (f : Claim) (names : Names) (i : ℕ) → Holds w no_bodies (counting q vs f) names i ↔ Holds w no_bodies (counted q (variable_list vs) f) names i
  counting_is Some vs f names i = not_same (under_is vs (negation f) names i)
  counting_is No vs f names i = under_is vs (negation f) names i
  counting_is One vs f names i = cond_both (are_many_rising vs)
      (both (negation (under vs (negation f))) (lone_by_one (alone [] vs) f))
      (negation (negation (test One (comprehension (variable_list vs) f))))
      (λ c. Holds w no_bodies c names i ↔ Holds w no_bodies (counted One (variable_list vs) f) names i)
      (λ many. same_trans (both_is w names i (negation (under vs (negation f))) (lone_by_one (alone [] vs) f)) (both_same (not_same (under_is vs (negation f) names i)) (lone_many vs f names i many)))
      (λ few. one_few vs f names i)
  counting_is Lone vs f names i = cond_both (are_many_rising vs)
      (lone_by_one (alone [] vs) f)
      (lone_values vs f)
      (λ c. Holds w no_bodies c names i ↔ Holds w no_bodies (counted Lone (variable_list vs) f) names i)
      (λ many. lone_many vs f names i many)
      (λ few. still)
