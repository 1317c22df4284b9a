-- The lasso of an assignment is the one candidate of which it tells.
use Rattle.std.proofs.Common.{◌≡◌, ◌↔◌, ◌⊎◌, inl, inr, ℕ, zero, suc, ◌+◌, ◌<◌, ◌≤◌, Bool, true, false, if◌then◌else◌, List, [], ◌∷◌, length, map, slice_get, get_or, Some, All, Contains, IsTrue, refl, ap, sym, ◌∙◌, subst, arith}
use Rattle.std.specs.declared.cmp.Ordering.TheVariants.{Less}
use Rattle.std.specs.List.{range_with_len, AllByRecursion}
use Rattle.std.specs.List.Sorted.{IsStrictlySortedBy}
use Rattle.std.proofs.lemmas.Bool.{cases_lt, false≢true}
use Rattle.std.proofs.lemmas.List.{length-map}
use Rattle.std.proofs.lemmas.List.FromFn.{length-map-range_with_len}
use Rattle.std.proofs.lemmas.List.Elements.{recursion_from_All, All-from_recursion}
use Rattle.core_tuples.specs.Sets.{TupleList, IsTupleSet, tuple_cmp, In}
use Rattle.core_tuples.specs.Index.{IsNumber}
use Rattle.core_tuples.proofs.OrderLemmas.{cons_cases, cons_here, cons_later, no_members, not_below_itself}
use Rattle.core_meaning.specs.Sequence.{LassoValue}
use Rattle.bound_uppers.specs.declared.table.Bound.{Bound}
use Rattle.bound_uppers.specs.declared.table.Bounds.{Bounds}
use Rattle.bound_uppers.specs.Table.{keep, chosen, least, truth, first_at, variable_of, loop_variable, decoded_set, decoded_state, decoded}
use Rattle.bound_uppers.specs.Candidates.{IsWithinBound, IsCandidate, InState, Agrees, HasSets, HasOneLoop, DecodesCandidates, DecodesAgreeing, DecodesOnce}
use Rattle.bound_uppers.proofs.Lists.{same_by_get, same_set}
use Rattle.bound_uppers.proofs.Choosing.{sorted_same, least_is, least_alone, rec_at}
use Rattle.bound_uppers.proofs.Sizes.{get_map}

-- ---- lists

from_range : {X : Type 0} (f : ℕ → X) (a n k : ℕ) (x : X) → slice_get (map f (range_with_len a n)) k ≡ Some x → (k < n) × (x ≡ f (a + k))
from_range f a zero k x e = cc
from_range f a (suc n) zero x e = let is : f a ≡ x = cc in let same : a ≡ a + 0 = omega arith in (omega arith, sym is ∙ ap f same)
from_range f a (suc n) (suc k) x e =
    let rest = from_range f (a + 1) n k x e in
    let same : a + 1 + k ≡ a + suc k = omega arith in
    (omega (arith, rest.0), rest.1 ∙ ap f same)

to_range : {X : Type 0} (f : ℕ → X) (a n k : ℕ) → k < n → slice_get (map f (range_with_len a n)) k ≡ Some (f (a + k))
to_range f a zero k lt = absurd (omega arith)
to_range f a (suc n) zero lt = let same : a ≡ a + 0 = omega arith in ap (λ (m : ℕ). Some (f m)) same
to_range f a (suc n) (suc k) lt = let same : a + 1 + k ≡ a + suc k = omega arith in to_range f (a + 1) n k (omega arith) ∙ ap (λ (m : ℕ). Some (f m)) same

from_map : {X Y : Type 0} (f : X → Y) (xs : List X) (k : ℕ) (x : X) (y : Y) → slice_get xs k ≡ Some x → slice_get (map f xs) k ≡ Some y → y ≡ f x
from_map f xs k x y e h = let is : Some y ≡ Some (f x) = sym h ∙ get_map f xs k x e in cc

got : {X : Type 0} (xs : List X) (k : ℕ) → k < length xs → (x : X) × (slice_get xs k ≡ Some x)
got [] k lt = absurd (omega arith)
got (x ∷ xs) zero lt = (x, refl)
got (x ∷ xs) (suc k) lt = got xs k (omega arith)

there : {X : Type 0} (xs : List X) (k : ℕ) (x : X) → slice_get xs k ≡ Some x → Contains xs x
there [] k x e = cc
there (y ∷ xs) zero x e = let is : y ≡ x = cc in cons_here y xs x (sym is)
there (y ∷ xs) (suc k) x e = cons_later y xs x (there xs k x e)

placed_by : {X : Type 0} (xs : List X) (x : X) (k : ℕ) → k < length xs → get_or xs k x ≡ x → slice_get xs k ≡ Some x
placed_by [] x k lt e = absurd (omega arith)
placed_by (y ∷ xs) x zero lt e = ap (λ z. Some z) e
placed_by (y ∷ xs) x (suc k) lt e = placed_by xs x k (omega arith) e

placed : {X : Type 0} (xs : List X) (x : X) → Contains xs x → (k : ℕ) × (slice_get xs k ≡ Some x)
placed xs x (k, lt, e) = (k, placed_by xs x k lt e)

-- ---- what is chosen

keep_all : {X : Type 0} (P : X → Type 0) (b : Bool) (x : X) (xs : List X) → P x → AllByRecursion P xs → AllByRecursion P (keep b x xs)
keep_all P true x xs here all = (here, all)
keep_all P false x xs here all = all

all_those : {X : Type 0} (P : X → Type 0) (p : ℕ → Bool) (j : ℕ) (xs : List X) → AllByRecursion P xs → AllByRecursion P (chosen p j xs)
all_those P p j [] all = all
all_those P p j (x ∷ xs) all = keep_all P (p j) x (chosen p (suc j) xs) all.0 (all_those P p (suc j) xs all.1)

all_chosen_of : {X : Type 0} (P : X → Type 0) (p : ℕ → Bool) (j : ℕ) (xs : List X) → All P xs → All P (chosen p j xs)
all_chosen_of P p j xs all = All-from_recursion P (chosen p j xs) (all_those P p j xs (recursion_from_All P xs all))

keep_sorted : (b : Bool) (x : List ℕ) (xs : List (List ℕ)) → AllByRecursion (λ y. tuple_cmp x y ≡ Less) xs → IsStrictlySortedBy tuple_cmp xs → IsStrictlySortedBy tuple_cmp (keep b x xs)
unfolding IsStrictlySortedBy
keep_sorted true x xs all s = (all, s)
keep_sorted false x xs all s = s

those_sorted : (p : ℕ → Bool) (j : ℕ) (xs : List (List ℕ)) → IsStrictlySortedBy tuple_cmp xs → IsStrictlySortedBy tuple_cmp (chosen p j xs)
unfolding IsStrictlySortedBy
those_sorted p j [] s = s
those_sorted p j (x ∷ xs) s = keep_sorted (p j) x (chosen p (suc j) xs) (all_those (λ y. tuple_cmp x y ≡ Less) p (suc j) xs s.0) (those_sorted p (suc j) xs s.1)

those_set : (p : ℕ → Bool) (s : TupleList) → IsTupleSet s → IsTupleSet (record { arity = s.arity; tuples = chosen p 0 s.tuples })
those_set p s is = record {
  least = is.least;
  most = is.most;
  columns = all_chosen_of (λ t. length t ≡ s.arity) p 0 s.tuples is.columns;
  numbers = all_chosen_of (λ t. All IsNumber t) p 0 s.tuples is.numbers;
  sorted = those_sorted p 0 s.tuples is.sorted;
}

-- where a chosen item stands
keep_where : {X : Type 0} (b : Bool) (x t : X) (xs : List X) → Contains (keep b x xs) t → ((b ≡ true) × (t ≡ x)) ⊎ Contains xs t
keep_where true x t xs h = elim (cons_cases x xs t h) [ inl e ↦ inl (refl, e) | inr later ↦ inr later ]
keep_where false x t xs h = inr h

chosen_where : {X : Type 0} (p : ℕ → Bool) (j : ℕ) (xs : List X) (t : X) → Contains (chosen p j xs) t → (k : ℕ) × (slice_get xs k ≡ Some t) × (p (j + k) ≡ true)
chosen_where p j [] t h = absurd (no_members t h)
chosen_where p j (x ∷ xs) t h = elim (keep_where (p j) x t (chosen p (suc j) xs) h) [
  | inl here ↦ let same : j ≡ j + 0 = omega arith in (zero, ap (λ y. Some y) (sym here.1), ap p (sym same) ∙ here.0)
  | inr later ↦
      let rest = chosen_where p (suc j) xs t later in
      let same : suc j + rest.0 ≡ j + suc rest.0 = omega arith in
      (suc rest.0, rest.1, ap p (sym same) ∙ rest.2)
]

keep_here : {X : Type 0} (b : Bool) (x t : X) (xs : List X) → b ≡ true → x ≡ t → Contains (keep b x xs) t
keep_here true x t xs e is = cons_here x xs t (sym is)
keep_here false x t xs e is = absurd (false≢true e)

keep_there : {X : Type 0} (b : Bool) (x t : X) (xs : List X) → Contains xs t → Contains (keep b x xs) t
keep_there true x t xs h = cons_later x xs t h
keep_there false x t xs h = h

chosen_there : {X : Type 0} (p : ℕ → Bool) (j : ℕ) (xs : List X) (k : ℕ) (t : X) → slice_get xs k ≡ Some t → p (j + k) ≡ true → Contains (chosen p j xs) t
chosen_there p j [] k t e holds_it = cc
chosen_there p j (x ∷ xs) zero t e holds_it = let is : x ≡ t = cc in let same : j + 0 ≡ j = omega arith in keep_here (p j) x t (chosen p (suc j) xs) (ap p (sym same) ∙ holds_it) is
chosen_there p j (x ∷ xs) (suc k) t e holds_it = let same : suc j + k ≡ j + suc k = omega arith in keep_there (p j) x t (chosen p (suc j) xs) (chosen_there p (suc j) xs k t e (ap p same ∙ holds_it))

-- a sorted list has each tuple at one place
apart_from : (x t : List ℕ) (xs : List (List ℕ)) (k : ℕ) → AllByRecursion (λ y. tuple_cmp x y ≡ Less) xs → x ≡ t → slice_get xs k ≡ Some t → ⊥
apart_from x t xs k all is e = not_below_itself t (subst (λ (y : List ℕ). tuple_cmp y t ≡ Less) is (rec_at (λ y. tuple_cmp x y ≡ Less) xs t all (there xs k t e)))

one_place : (xs : List (List ℕ)) (i k : ℕ) (t : List ℕ) → IsStrictlySortedBy tuple_cmp xs → slice_get xs i ≡ Some t → slice_get xs k ≡ Some t → i ≡ k
unfolding IsStrictlySortedBy
one_place [] i k t s e f = cc
one_place (x ∷ xs) zero zero t s e f = refl
one_place (x ∷ xs) zero (suc k) t s e f = let is : x ≡ t = cc in absurd (apart_from x t xs k s.0 is f)
one_place (x ∷ xs) (suc i) zero t s e f = let is : x ≡ t = cc in absurd (apart_from x t xs i s.0 is e)
one_place (x ∷ xs) (suc i) (suc k) t s e f = ap (λ (n : ℕ). suc n) (one_place xs i k t s.1 e f)

some_alike : {X : Type 0} (x y : X) → Some x ≡ Some y → x ≡ y
some_alike x y e = cc

either : (b : Bool) (n other k : ℕ) → n < k → other < k → (if b then n else other) < k
either true n other k lt less = lt
either false n other k lt less = less

-- ---- the lasso

module _ (bounds : Bounds) (values : List Bool) where
  abbrev passes : Bound → ℕ → ℕ → Bool
  passes b s place = truth values (variable_of bounds.relations b s place)

  abbrev chooses : ℕ → Bool
  chooses s = truth values (loop_variable bounds s)

  at_state : (s : ℕ) (state : List TupleList) → slice_get (decoded bounds values).states s ≡ Some state → (s < bounds.states) × (state ≡ decoded_state bounds.relations values s)
  at_state s state e =
      let found = from_range (decoded_state bounds.relations values) 0 bounds.states s state e in
      let same : 0 + s ≡ s = omega arith in
      (found.0, found.1 ∙ ap (decoded_state bounds.relations values) same)

  at_relation : (s r : ℕ) (state : List TupleList) (set : TupleList) (b : Bound) → slice_get (decoded bounds values).states s ≡ Some state → slice_get state r ≡ Some set → slice_get bounds.relations r ≡ Some b → set ≡ decoded_set bounds.relations values s b
  at_relation s r state set b e f g =
      let is = (at_state s state e).1 in
      from_map (decoded_set bounds.relations values s) bounds.relations r b set g (ap (λ (st : List TupleList). slice_get st r) (sym is) ∙ f)

  least_below : (p : ℕ → Bool) (n other k : ℕ) → n ≤ k → other < k → least p n other < k
  least_below p zero other k le lt = lt
  least_below p (suc n) other k le lt = least_below p n (if p n then n else other) k (omega arith) (either (p n) n other k (omega arith) lt)

  fixed_first : (f : Bool) (s q : ℕ) → f ≡ true → (if f then 0 else s) ≡ (if f then 0 else q)
  fixed_first true s q e = refl
  fixed_first false s q e = absurd (false≢true e)

  fixed_set : (s q : ℕ) (b : Bound) → b.fixed ≡ true → decoded_set bounds.relations values s b ≡ decoded_set bounds.relations values q b
  fixed_set s q b e = ap (λ (z : ℕ). record { arity = b.upper.arity; tuples = chosen (λ place. truth values (first_at bounds.relations b z + place)) 0 b.upper.tuples }) (fixed_first b.fixed s q e)

  set_at : (s r : ℕ) (state : List TupleList) (b : Bound) → slice_get (decoded bounds values).states s ≡ Some state → slice_get bounds.relations r ≡ Some b → slice_get state r ≡ Some (decoded_set bounds.relations values s b)
  set_at s r state b e g = ap (λ (st : List TupleList). slice_get st r) (at_state s state e).1 ∙ get_map (decoded_set bounds.relations values s) bounds.relations r b g

  set_within : (s : ℕ) (b : Bound) → IsTupleSet b.upper → IsWithinBound b (decoded_set bounds.relations values s b)
  set_within s b is = (those_set (passes b s) b.upper is, refl, λ t h. let found = chosen_where (passes b s) 0 b.upper.tuples t h in there b.upper.tuples found.0 t found.1)

  candidate : 0 < bounds.states → HasSets bounds → IsCandidate bounds (decoded bounds values)
  candidate some sets = record {
    states = length-map-range_with_len (decoded_state bounds.relations values) 0 bounds.states;
    loop = least_below chooses bounds.states 0 bounds.states (omega arith) some;
    relations = λ s state e. ap length (at_state s state e).1 ∙ length-map bounds.relations (decoded_set bounds.relations values s);
    within = λ s r state set b e f g. subst (IsWithinBound b) (sym (at_relation s r state set b e f g)) (set_within s b (sets r b g));
    fixed = λ s q r state other b e f g is. set_at s r state b e g ∙ (ap (λ (x : TupleList). Some x) (fixed_set s q b is) ∙ sym (set_at q r other b f g));
  }

  in_decoded : (s r place : ℕ) (b : Bound) (t : List ℕ) → HasSets bounds → s < bounds.states → slice_get bounds.relations r ≡ Some b → slice_get b.upper.tuples place ≡ Some t → IsTrue (passes b s place) ↔ InState (decoded bounds values) s r t
  in_decoded s r place b t sets lt g at =
      let state = decoded_state bounds.relations values s in
      let set = decoded_set bounds.relations values s b in
      let same : 0 + s ≡ s = omega arith in
      let zero_more : 0 + place ≡ place = omega arith in
      let here : slice_get (decoded bounds values).states s ≡ Some state = to_range (decoded_state bounds.relations values) 0 bounds.states s lt ∙ ap (λ (m : ℕ). Some (decoded_state bounds.relations values m)) same in (
        (λ holds_it. (state, set, here, get_map (decoded_set bounds.relations values s) bounds.relations r b g, chosen_there (passes b s) 0 b.upper.tuples place t at (ap (passes b s) zero_more ∙ holds_it))),
        (λ h.
            let is = at_relation s r h.0 h.1 b h.2 h.3 g in
            let among : Contains (chosen (passes b s) 0 b.upper.tuples) t = subst (λ (x : TupleList). In t x) is h.4 in
            let found = chosen_where (passes b s) 0 b.upper.tuples t among in
            let alike : found.0 ≡ place = one_place b.upper.tuples found.0 place t (sets r b g).sorted found.1 at in
            let plain : 0 + found.0 ≡ place = omega (arith, alike) in
            ap (passes b s) (sym plain) ∙ found.2),
      )

  not_true : (b : Bool) → (b ≡ true → ⊥) → b ≡ false
  not_true true never = absurd (never refl)
  not_true false never = refl

  loop_is : (s : ℕ) → s < bounds.states → IsTrue (chooses s) → ((q : ℕ) → q < bounds.states → IsTrue (chooses q) → q ≡ s) → (decoded bounds values).loop_start ≡ s
  loop_is s lt holds_it only = least_is chooses bounds.states s 0 lt holds_it (λ q less. not_true (chooses q) (λ also. let is = only q (omega (arith, less, lt)) also in omega (arith, is, less)))

  agreeing : HasSets bounds → HasOneLoop bounds values → Agrees bounds values (decoded bounds values)
  agreeing sets one = record {
    tuples = λ s r place b t lt g at. in_decoded s r place b t sets lt g at;
    loop = λ several s lt.
        let found = one several in
        let is = loop_is found.0 found.1 found.2 found.3 in
        ((λ holds_it. found.3 s lt holds_it ∙ sym is), (λ e. subst (λ (q : ℕ). IsTrue (chooses q)) (sym (e ∙ is)) found.2));
  }

  module _ (lasso : LassoValue) (sets : HasSets bounds) (is : IsCandidate bounds lasso) (agrees : Agrees bounds values lasso) where
    in_upper : (s r : ℕ) (state : List TupleList) (set : TupleList) (b : Bound) (t : List ℕ) → s < bounds.states → slice_get lasso.states s ≡ Some state → slice_get state r ≡ Some set → slice_get bounds.relations r ≡ Some b → In t set → Contains (chosen (passes b s) 0 b.upper.tuples) t
    in_upper s r state set b t lt e f g h =
        let place = placed b.upper.tuples t ((is.within s r state set b e f g).2 t h) in
        let holds_it = (agrees.tuples s r place.0 b t lt g place.1).1 (state, set, e, f, h) in
        let zero_more : 0 + place.0 ≡ place.0 = omega arith in
        chosen_there (passes b s) 0 b.upper.tuples place.0 t place.1 (ap (passes b s) zero_more ∙ holds_it)

    in_set : (s r : ℕ) (state : List TupleList) (set : TupleList) (b : Bound) (t : List ℕ) → s < bounds.states → slice_get lasso.states s ≡ Some state → slice_get state r ≡ Some set → slice_get bounds.relations r ≡ Some b → Contains (chosen (passes b s) 0 b.upper.tuples) t → In t set
    in_set s r state set b t lt e f g h =
        let found = chosen_where (passes b s) 0 b.upper.tuples t h in
        let zero_more : 0 + found.0 ≡ found.0 = omega arith in
        let tells = (agrees.tuples s r found.0 b t lt g found.1).0 (ap (passes b s) (sym zero_more) ∙ found.2) in
        let same_state : tells.0 ≡ state = some_alike tells.0 state (sym tells.2 ∙ e) in
        let same : tells.1 ≡ set = some_alike tells.1 set (sym tells.3 ∙ (ap (λ (st : List TupleList). slice_get st r) same_state ∙ f)) in
        subst (λ (x : TupleList). In t x) same tells.4

    same_sets : (s r : ℕ) (state : List TupleList) (set : TupleList) (b : Bound) → s < bounds.states → slice_get lasso.states s ≡ Some state → slice_get state r ≡ Some set → slice_get bounds.relations r ≡ Some b → set ≡ decoded_set bounds.relations values s b
    same_sets s r state set b lt e f g =
        let within = is.within s r state set b e f g in
        same_set set (decoded_set bounds.relations values s b) within.1
        (sorted_same set.tuples (chosen (passes b s) 0 b.upper.tuples) within.0.sorted (those_sorted (passes b s) 0 b.upper.tuples (sets r b g).sorted)
        (λ t h. in_upper s r state set b t lt e f g h) (λ t h. in_set s r state set b t lt e f g h))

    same_state : (s : ℕ) (state : List TupleList) → s < bounds.states → slice_get lasso.states s ≡ Some state → state ≡ decoded_state bounds.relations values s
    same_state s state lt e =
        let count = is.relations s state e in
        let whole = length-map bounds.relations (decoded_set bounds.relations values s) in
        same_by_get state (decoded_state bounds.relations values s) (count ∙ sym whole) (λ r less.
        let set = got state r less in
        let b = got bounds.relations r (subst (λ (n : ℕ). r < n) count less) in
        set.1 ∙ (ap (λ (x : TupleList). Some x) (same_sets s r state set.0 b.0 lt e set.1 b.1) ∙ sym (get_map (decoded_set bounds.relations values s) bounds.relations r b.0 b.1)))

    same_states : lasso.states ≡ (decoded bounds values).states
    same_states =
        let count = length-map-range_with_len (decoded_state bounds.relations values) 0 bounds.states in
        same_by_get lasso.states (decoded bounds values).states (is.states ∙ sym count) (λ s less.
        let state = got lasso.states s less in
        let lt : s < bounds.states = subst (λ (n : ℕ). s < n) is.states less in
        let same : s ≡ 0 + s = omega arith in
        state.1 ∙ (ap (λ (x : List TupleList). Some x) (same_state s state.0 lt state.1 ∙ ap (decoded_state bounds.relations values) same) ∙ sym (to_range (decoded_state bounds.relations values) 0 bounds.states s lt)))

    same_loop : (1 < bounds.states) ⊎ (bounds.states ≤ 1) → lasso.loop_start ≡ (decoded bounds values).loop_start
    same_loop (inl several) = sym (loop_is lasso.loop_start is.loop ((agrees.loop several lasso.loop_start is.loop).1 refl) (λ q lt holds_it. (agrees.loop several q lt).0 holds_it))
    same_loop (inr one) = let loop = is.loop in let start : lasso.loop_start ≡ 0 = omega (arith, loop, one) in start ∙ sym (least_alone chooses bounds.states one)

    once : lasso ≡ decoded bounds values
    once = ap (λ (xs : List (List TupleList)). record { states = xs; loop_start = lasso.loop_start }) same_states ∙ ap (λ (n : ℕ). record { states = (decoded bounds values).states; loop_start = n }) (same_loop (cases_lt 1 bounds.states))

pub decodes_candidates : DecodesCandidates
decodes_candidates bounds values some sets = candidate bounds values some sets

pub decodes_agreeing : DecodesAgreeing
decodes_agreeing bounds values sets one = agreeing bounds values sets one

pub decodes_once : DecodesOnce
decodes_once bounds values lasso sets is agrees = once bounds values lasso sets is agrees

-- what is said of a lasso that was decoded
pub candidate_by : (bounds : Bounds) (values : List Bool) (lasso : LassoValue) → 0 < bounds.states → HasSets bounds → lasso ≡ decoded bounds values → IsCandidate bounds lasso
candidate_by bounds values lasso some sets is = subst (IsCandidate bounds) (sym is) (candidate bounds values some sets)

pub agrees_by : (bounds : Bounds) (values : List Bool) (lasso : LassoValue) → HasSets bounds → HasOneLoop bounds values → lasso ≡ decoded bounds values → Agrees bounds values lasso
agrees_by bounds values lasso sets one is = subst (Agrees bounds values) (sym is) (agreeing bounds values sets one)
