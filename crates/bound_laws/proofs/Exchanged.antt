-- The lasso in which two atoms have changed places: at each state a relation has those tuples of its upper bound that, exchanged,
-- are in the old one. Where the exchange carries each upper bound into itself, it is a candidate again, and shows the same
-- renamed.
use Rattle.std.proofs.Common.{◌≡◌, ◌↔◌, ◌⊎◌, inl, inr, ℕ, zero, suc, ◌+◌, ◌-◌, ◌%◌, ◌<◌, Bool, true, false, cond, if◌then◌else◌, List, [], ◌∷◌, length, map, All, Contains, Some, slice_get, refl, sym, ap, ◌∙◌, subst, arith}
use Rattle.std.specs.Prelude.{nat_lt}
use Rattle.std.specs.List.{filter}
use Rattle.std.proofs.lemmas.Bool.{false≢true}
use Rattle.std.proofs.lemmas.List.{length-map}
use Rattle.std.proofs.lemmas.List.Elements.{All-filter}
use Rattle.std.proofs.lemmas.List.Kept.{IsStrictlySortedBy-filter}
use Rattle.std.proofs.lemmas.Option.{same_Some, slice_get_within}
use Rattle.core_tuples.specs.Index.{IsNumber}
use Rattle.core_tuples.specs.Sets.{TupleList, IsTupleSet, In, tuple_cmp}
use Rattle.core_tuples.proofs.OrderLemmas.{cons_cases, cons_here, cons_later, no_members}
use Rattle.core_meaning.specs.declared.scopes.Scopes.{Scopes}
use Rattle.core_meaning.specs.Sequence.{LassoValue, place_of}
use Rattle.core_renaming.specs.Renamings.{ShowsRenamed}
use Rattle.core_renaming.specs.Composed.{exchanged, exchange}
use Rattle.bound_uppers.specs.declared.table.Bound.{Bound}
use Rattle.bound_uppers.specs.declared.table.Bounds.{Bounds}
use Rattle.bound_uppers.specs.Candidates.{IsWithinBound, IsCandidate, InState, HasSets}
use Rattle.bound_laws.proofs.Decided.{Decided, told, told_true, decided_among}
use Rattle.bound_laws.proofs.Exchanging.{twice}

-- ---- lists

there : {X : Type 0} (xs : List X) (k : ℕ) → k < length xs → (x : X) × (slice_get xs k ≡ Some x)
there [] k lt = absurd (omega (arith, lt))
there (x ∷ xs) zero lt = (x, refl)
there (x ∷ xs) (suc k) lt = there xs k (omega (arith, lt))

map_from : {X Y : Type 0} (f : X → Y) (xs : List X) (k : ℕ) (y : Y) → slice_get (map f xs) k ≡ Some y → (x : X) × (slice_get xs k ≡ Some x) × (y ≡ f x)
map_from f [] k y e = cc
map_from f (x ∷ xs) zero y e = (x, refl, sym (same_Some (f x) y e))
map_from f (x ∷ xs) (suc k) y e = map_from f xs k y e

map_to : {X Y : Type 0} (f : X → Y) (xs : List X) (k : ℕ) (x : X) → slice_get xs k ≡ Some x → slice_get (map f xs) k ≡ Some (f x)
map_to f [] k x e = cc
map_to f (y ∷ xs) zero x e = ap (λ z. Some (f z)) (same_Some y x e)
map_to f (y ∷ xs) (suc k) x e = map_to f xs k x e

-- what passes a test
kept_from : {X : Type 0} (p : X → Bool) (xs : List X) (t : X) → Contains (filter p xs) t → (p t ≡ true) × Contains xs t
kept_from p [] t h = absurd (no_members t h)
kept_from p (x ∷ xs) t h = by_test (p x) refl (kept_from p xs t) h
  where
    further : (p t ≡ true) × Contains xs t → (p t ≡ true) × Contains (x ∷ xs) t
    further (on, among) = (on, cons_later x xs t among)

    by_test : (b : Bool) → p x ≡ b → (Contains (filter p xs) t → (p t ≡ true) × Contains xs t) → Contains (cond b (x ∷ filter p xs) (filter p xs)) t → (p t ≡ true) × Contains (x ∷ xs) t
    by_test true e rest g = elim (cons_cases x (filter p xs) t g) [ inl here ↦ (ap p here ∙ e, cons_here x xs t here) | inr later ↦ further (rest later) ]
    by_test false e rest g = further (rest g)

kept_to : {X : Type 0} (p : X → Bool) (xs : List X) (t : X) → p t ≡ true → Contains xs t → Contains (filter p xs) t
kept_to p [] t on h = h
kept_to p (x ∷ xs) t on h = by_test (p x) refl (kept_to p xs t on) (cons_cases x xs t h)
  where
    by_test : (b : Bool) → p x ≡ b → (Contains xs t → Contains (filter p xs) t) → (t ≡ x) ⊎ Contains xs t → Contains (cond b (x ∷ filter p xs) (filter p xs)) t
    by_test true e rest (inl here) = cons_here x (filter p xs) t here
    by_test true e rest (inr later) = cons_later x (filter p xs) t (rest later)
    by_test false e rest (inl here) = absurd (false≢true (sym e ∙ (ap p (sym here) ∙ on)))
    by_test false e rest (inr later) = rest later

told_is : (P : Type 0) (d : Decided P) → told P d ≡ true → P
told_is P (inl h) e = h
told_is P (inr off) e = absurd (false≢true e)

-- ---- sets, states and lassos exchanged

module _ (a b : ℕ) where
  abbrev pub passes : TupleList → List ℕ → Bool
  passes set t = told (Contains set.tuples (map (exchanged a b) t)) (decided_among set.tuples (map (exchanged a b) t))

  abbrev pub exchanged_set : Bound → TupleList → TupleList
  exchanged_set c set = record { arity = c.upper.arity; tuples = filter (passes set) c.upper.tuples }

  abbrev pub exchanged_state : List Bound → List TupleList → List TupleList
  exchanged_state [] sets = []
  exchanged_state (c ∷ cs) [] = []
  exchanged_state (c ∷ cs) (set ∷ sets) = exchanged_set c set ∷ exchanged_state cs sets

  abbrev pub exchanged_lasso : Bounds → LassoValue → LassoValue
  exchanged_lasso bounds lasso = record { states = map (exchanged_state bounds.relations) lasso.states; loop_start = lasso.loop_start }

  state_count : (cs : List Bound) (sets : List TupleList) → length sets ≡ length cs → length (exchanged_state cs sets) ≡ length cs
  state_count [] sets e = refl
  state_count (c ∷ cs) [] e = absurd (omega (arith, e))
  state_count (c ∷ cs) (set ∷ sets) e = ap suc (state_count cs sets (omega (arith, e)))

  set_to : (cs : List Bound) (sets : List TupleList) (r : ℕ) (c : Bound) (set : TupleList) → slice_get cs r ≡ Some c → slice_get sets r ≡ Some set → slice_get (exchanged_state cs sets) r ≡ Some (exchanged_set c set)
  set_to [] sets r c set e f = cc
  set_to (d ∷ cs) [] r c set e f = cc
  set_to (d ∷ cs) (x ∷ sets) zero c set e f = ap (λ (y : Bound). Some (exchanged_set y x)) (same_Some d c e) ∙ ap (λ (y : TupleList). Some (exchanged_set c y)) (same_Some x set f)
  set_to (d ∷ cs) (x ∷ sets) (suc r) c set e f = set_to cs sets r c set e f

  abbrev IsFrom : List Bound → List TupleList → ℕ → TupleList → Type 0
  IsFrom cs sets r new = (c : Bound) × (set : TupleList) × (slice_get cs r ≡ Some c) × (slice_get sets r ≡ Some set) × (new ≡ exchanged_set c set)

  set_from : (cs : List Bound) (sets : List TupleList) (r : ℕ) (new : TupleList) → slice_get (exchanged_state cs sets) r ≡ Some new → IsFrom cs sets r new
  set_from [] sets r new e = cc
  set_from (c ∷ cs) [] r new e = cc
  set_from (c ∷ cs) (set ∷ sets) zero new e = (c, set, refl, refl, sym (same_Some (exchanged_set c set) new e))
  set_from (c ∷ cs) (set ∷ sets) (suc r) new e = set_from cs sets r new e

  -- a part of a set
  filtered_set : (p : List ℕ → Bool) (set : TupleList) → IsTupleSet set → IsTupleSet (record { arity = set.arity; tuples = filter p set.tuples })
  filtered_set p set is = record {
    least = is.least;
    most = is.most;
    columns = All-filter p (λ (t : List ℕ). length t ≡ set.arity) set.tuples is.columns;
    numbers = All-filter p (λ (t : List ℕ). All IsNumber t) set.tuples is.numbers;
    sorted = IsStrictlySortedBy-filter tuple_cmp p set.tuples is.sorted;
  }

  module _ (bounds : Bounds) (lasso : LassoValue) (is : IsCandidate bounds lasso) where
    bound_at : (s r : ℕ) (state : List TupleList) (set : TupleList) → slice_get lasso.states s ≡ Some state → slice_get state r ≡ Some set → (c : Bound) × (slice_get bounds.relations r ≡ Some c)
    bound_at s r state set shown at = there bounds.relations r (subst (λ (n : ℕ). r < n) (is.relations s state shown) (slice_get_within state r set at))

    set_at : (s r : ℕ) (state : List TupleList) (c : Bound) → slice_get lasso.states s ≡ Some state → slice_get bounds.relations r ≡ Some c → (set : TupleList) × (slice_get state r ≡ Some set)
    set_at s r state c shown at = there state r (subst (λ (n : ℕ). r < n) (sym (is.relations s state shown)) (slice_get_within bounds.relations r c at))

    new_state : (s : ℕ) (new : List TupleList) → slice_get (exchanged_lasso bounds lasso).states s ≡ Some new → (state : List TupleList) × (slice_get lasso.states s ≡ Some state) × (new ≡ exchanged_state bounds.relations state)
    new_state s new e = map_from (exchanged_state bounds.relations) lasso.states s new e

    module _ (sets : HasSets bounds) where
      new_within : (s r : ℕ) (new : List TupleList) (set : TupleList) (c : Bound) → slice_get (exchanged_lasso bounds lasso).states s ≡ Some new → slice_get new r ≡ Some set → slice_get bounds.relations r ≡ Some c → IsWithinBound c set
      new_within s r new set c shown at bound =
          let (state, was, same) = new_state s new shown in
          let (d, old, over, here, alike) = set_from bounds.relations state r set (ap (λ (l : List TupleList). slice_get l r) (sym same) ∙ at) in
          let one : d ≡ c = same_Some d c (sym over ∙ bound) in
          let made : set ≡ exchanged_set c old = alike ∙ ap (λ (y : Bound). exchanged_set y old) one in
          subst (IsWithinBound c) (sym made) (filtered_set (passes old) c.upper (sets r c bound), refl, (λ t h. (kept_from (passes old) c.upper.tuples t h).1))

      new_fixed : (s q r : ℕ) (new more : List TupleList) (c : Bound) → slice_get (exchanged_lasso bounds lasso).states s ≡ Some new → slice_get (exchanged_lasso bounds lasso).states q ≡ Some more → slice_get bounds.relations r ≡ Some c → c.fixed ≡ true → slice_get new r ≡ slice_get more r
      new_fixed s q r new more c shown too bound still =
          let (state, was, same) = new_state s new shown in
          let (other, were, alike) = new_state q more too in
          let (set, here) = set_at s r state c was bound in
          let also : slice_get other r ≡ Some set = sym (is.fixed s q r state other c was were bound still) ∙ here in
          ap (λ (l : List TupleList). slice_get l r) same ∙ (set_to bounds.relations state r c set bound here ∙ (sym (set_to bounds.relations other r c set bound also) ∙ ap (λ (l : List TupleList). slice_get l r) (sym alike)))

      pub exchanged_candidate : IsCandidate bounds (exchanged_lasso bounds lasso)
      exchanged_candidate = record {
        states = length-map lasso.states (exchanged_state bounds.relations) ∙ is.states;
        loop = is.loop;
        relations = λ s new shown. let (state, was, same) = new_state s new shown in ap length same ∙ state_count bounds.relations state (is.relations s state was);
        within = new_within;
        fixed = new_fixed;
      }

    -- ---- where each upper bound is carried into itself

    module _ (closed : (r : ℕ) (c : Bound) (t : List ℕ) → slice_get bounds.relations r ≡ Some c → In t c.upper → In (map (exchanged a b) t) c.upper) where
      moved_to : (s r : ℕ) (t : List ℕ) → InState lasso s r t → InState (exchanged_lasso bounds lasso) s r (map (exchanged a b) t)
      moved_to s r t (state, set, shown, at, among) =
          let (c, bound) = bound_at s r state set shown at in
          let over = closed r c t bound ((is.within s r state set c shown at bound).2 t among) in
          let back : Contains set.tuples (map (exchanged a b) (map (exchanged a b) t)) = subst (λ (u : List ℕ). Contains set.tuples u) (sym (twice a b t)) among in
          let passing : passes set (map (exchanged a b) t) ≡ true = told_true (Contains set.tuples (map (exchanged a b) (map (exchanged a b) t))) (decided_among set.tuples (map (exchanged a b) (map (exchanged a b) t))) back in
          (exchanged_state bounds.relations state, exchanged_set c set, map_to (exchanged_state bounds.relations) lasso.states s state shown, set_to bounds.relations state r c set bound at, kept_to (passes set) c.upper.tuples (map (exchanged a b) t) passing over)

      moved_from : (s r : ℕ) (t : List ℕ) → InState (exchanged_lasso bounds lasso) s r (map (exchanged a b) t) → InState lasso s r t
      moved_from s r t (new, made, shown, at, among) =
          let (state, was, same) = new_state s new shown in
          let (c, set, bound, here, alike) = set_from bounds.relations state r made (ap (λ (l : List TupleList). slice_get l r) (sym same) ∙ at) in
          let kept : Contains (filter (passes set) c.upper.tuples) (map (exchanged a b) t) = subst (λ (x : TupleList). In (map (exchanged a b) t) x) alike among in
          let passing = (kept_from (passes set) c.upper.tuples (map (exchanged a b) t) kept).0 in
          let back = told_is (Contains set.tuples (map (exchanged a b) (map (exchanged a b) t))) (decided_among set.tuples (map (exchanged a b) (map (exchanged a b) t))) passing in
          (state, set, was, here, subst (λ (u : List ℕ). Contains set.tuples u) (twice a b t) back)

      pub exchanged_moved : (s r : ℕ) (t : List ℕ) → InState lasso s r t ↔ InState (exchanged_lasso bounds lasso) s r (map (exchanged a b) t)
      exchanged_moved s r t = (moved_to s r t, moved_from s r t)

      same_place : (i : ℕ) → place_of (exchanged_lasso bounds lasso) i ≡ place_of lasso i
      same_place i = ap (λ (n : ℕ). if nat_lt i n then i else lasso.loop_start + (i - lasso.loop_start) % (n - lasso.loop_start)) (length-map lasso.states (exchanged_state bounds.relations))

      pub exchanged_shows : (scopes : Scopes) → ShowsRenamed scopes (exchange a b) lasso (exchanged_lasso bounds lasso)
      exchanged_shows scopes relation i t = (
        (λ h. subst (λ (n : ℕ). InState (exchanged_lasso bounds lasso) n relation (map (exchanged a b) t)) (sym (same_place i)) (moved_to (place_of lasso i) relation t h)),
        (λ h. moved_from (place_of lasso i) relation t (subst (λ (n : ℕ). InState (exchanged_lasso bounds lasso) n relation (map (exchanged a b) t)) (same_place i) h)),
      )
