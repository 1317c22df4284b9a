-- The pairs of the states have all partners, in the order of the table; the first so many of them are the pairs of two atoms.
use Rattle.std.proofs.Common.{◌≡◌, ◌⊎◌, inl, inr, ℕ, zero, suc, ◌+◌, ◌<◌, ◌≤◌, Bool, true, false, not, List, [], ◌∷◌, ◌++◌, length, take, slice_get, Option, Some, All, Contains, refl, ap, sym, ◌∙◌, subst, arith}
use Rattle.std.specs.Prelude.{map}
use Rattle.std.proofs.lemmas.Bool.{cases_lt, false≢true}
use Rattle.std.proofs.lemmas.List.{length-take}
use Rattle.std.proofs.lemmas.List.Elements.{All-nil, All-cons, All-head, All-tail, All-append, All-weaker, All-take, All-contains, Contains-append_left, Contains-append_right}
use Rattle.core_tuples.proofs.OrderLemmas.{cons_cases, cons_here, cons_later, no_members}
use Rattle.core_renaming.specs.Composed.{exchanged}
use Rattle.bound_uppers.specs.declared.table.Bound.{Bound}
use Rattle.bound_uppers.specs.declared.table.Bounds.{Bounds}
use Rattle.bound_uppers.specs.declared.places.Cells.{Cells}
use Rattle.bound_uppers.specs.declared.places.Layout.{Layout}
use Rattle.bound_uppers.specs.Table.{IsTable, IsLayout, IsRow, AreInOrder, variable_of, first_variable}
use Rattle.bound_naming.specs.declared.pairs.Pair.{Pair}
use Rattle.bound_naming.specs.declared.partners.Match.{Match}
use Rattle.bound_naming.specs.Naming.{IsCell, ArePartners, ArePairs}
use Rattle.bound_naming.specs.Reckoned.{Precedes, first_by, first_in, pair_in, state_pairs, pairs_to, moving}
use Rattle.bound_naming.proofs.PartnerLaws.{IsSomeMatch, AreMatches, AreMatchesOrdered, all_fixed, moving_are}

-- ---- pairs at a state

-- partners at a state
abbrev pub IsPairAt : Bounds → ℕ → ℕ → ℕ → Pair → Type 0
IsPairAt bounds a b s p = (r : ℕ) × (t : List ℕ) × IsCell bounds s r t p.earlier × IsCell bounds s r (map (exchanged a b) t) p.later × (p.earlier < p.later)

-- at one of the first states
abbrev pub IsPairTo : Bounds → ℕ → ℕ → ℕ → Pair → Type 0
IsPairTo bounds a b n p = (s : ℕ) × (s < n) × IsPairAt bounds a b s p

abbrev pub AreRising : List Pair → Type 0
AreRising [] = Unit {0}
AreRising (p ∷ ps) = All (λ (q : Pair). p.earlier < q.earlier) ps × AreRising ps

first_is : (bounds : Bounds) (table : Layout) (s r : ℕ) (b : Bound) → IsLayout bounds table → slice_get bounds.relations r ≡ Some b → s < bounds.states → first_in table s r ≡ first_variable bounds.relations b s
first_is bounds table s r b laid at lt =
    let cells = laid.cells r b at in
    ap (λ (o : Option Cells). first_by s o) cells.1 ∙ (cells.2 s lt).1

-- a row, where a relation that doesn't change has rows at the first state alone
row_of : (bounds : Bounds) (s r place : ℕ) (b : Bound) → slice_get bounds.relations r ≡ Some b → s < bounds.states → place < length b.upper.tuples → (b.fixed ≡ true → s ≡ 0) → IsRow bounds s r place b
row_of bounds s r place b at lt within own = record { relation = at; state = lt; place_in = within; own = own }

within_of : {X : Type 0} (xs : List X) (k : ℕ) (x : X) → slice_get xs k ≡ Some x → k < length xs
within_of [] k x at = cc
within_of (y ∷ ys) zero x at = omega arith
within_of (y ∷ ys) (suc k) x at = let less = within_of ys k x at in omega (arith, less)

match_pair : (bounds : Bounds) (table : Layout) (a b s : ℕ) (m : Match) → IsLayout bounds table → s < bounds.states → IsSomeMatch bounds.relations a b m → (m.fixed ≡ true → s ≡ 0) → IsPairAt bounds a b s (pair_in table s m)
match_pair bounds table a b s m laid lt some own =
    let bound : Bound = some.0 in
    let t : List ℕ = some.1 in
    let is = some.2 in
    let first = first_is bounds table s m.spot.relation bound laid is.relation lt in
    let only : bound.fixed ≡ true → s ≡ 0 = λ e. own (is.same ∙ e) in
    let later = is.later in (
      m.spot.relation,
      t,
      (bound, m.spot.place, row_of bounds s m.spot.relation m.spot.place bound is.relation lt (within_of bound.upper.tuples m.spot.place t is.here) only, is.here, ap (λ (n : ℕ). n + m.spot.place) first),
      (bound, m.other, row_of bounds s m.spot.relation m.other bound is.relation lt (within_of bound.upper.tuples m.other (map (exchanged a b) t) is.there) only, is.there, ap (λ (n : ℕ). n + m.other) first),
      omega (arith, later),
    )

-- a match before another gives an earlier pair
match_rises : (bounds : Bounds) (table : Layout) (a b s : ℕ) (m z : Match) → AreInOrder bounds → IsLayout bounds table → s < bounds.states → IsSomeMatch bounds.relations a b m → IsSomeMatch bounds.relations a b z → (m.fixed ≡ true → s ≡ 0) → (z.fixed ≡ true → s ≡ 0) → Precedes m.spot z.spot → (pair_in table s m).earlier < (pair_in table s z).earlier
match_rises bounds table a b s m z order laid lt some other own only before =
    let c : Bound = some.0 in
    let d : Bound = other.0 in
    let one = some.2 in
    let two = other.2 in
    let ranks : (c.order < d.order) ⊎ ((c.order ≡ d.order) × (m.spot.place < z.spot.place)) = elim before [
      | inl less ↦ inl (let e = one.order in let f = two.order in omega (arith, less, e, f))
      | inr same ↦ inr (sym one.order ∙ (same.0 ∙ two.order), same.1)
    ] in
    let less = order.rise s s m.spot.relation z.spot.relation m.spot.place z.spot.place c d
    (row_of bounds s m.spot.relation m.spot.place c one.relation lt (within_of c.upper.tuples m.spot.place some.1 one.here) (λ e. own (one.same ∙ e)))
    (row_of bounds s z.spot.relation z.spot.place d two.relation lt (within_of d.upper.tuples z.spot.place other.1 two.here) (λ e. only (two.same ∙ e)))
    (inr (refl, ranks)) in
    let first = first_is bounds table s m.spot.relation c laid one.relation lt in
    let second = first_is bounds table s z.spot.relation d laid two.relation lt in
    omega (arith, less, first, second)

-- ---- the pairs of a state

pub record AreStatePairs (bounds : Bounds) (a b s : ℕ) (ps : List Pair) : Type 0 where
  pub each : All (IsPairAt bounds a b s) ps
  pub rising : AreRising ps
  pub every : (p : Pair) → IsPairAt bounds a b s p → Contains ps p

map_each : (P : Match → Type 0) (Q : Pair → Type 0) (f : Match → Pair) (ms : List Match) → ((m : Match) → P m → Q (f m)) → All P ms → All Q (map f ms)
map_each P Q f [] to all = All-nil Q
map_each P Q f (m ∷ ms) to all = All-cons Q (f m) (map f ms) (to m (All-head P m ms all)) (map_each P Q f ms to (All-tail P m ms all))

map_here : (f : Match → Pair) (ms : List Match) (m : Match) → Contains ms m → Contains (map f ms) (f m)
map_here f [] m among = absurd (no_members m among)
map_here f (x ∷ ms) m among = elim (cons_cases x ms m among) [
  | inl is ↦ cons_here (f x) (map f ms) (f m) (ap f is)
  | inr later ↦ cons_later (f x) (map f ms) (f m) (map_here f ms m later)
]

map_rises : (P : Match → Type 0) (f : Match → Pair) (ms : List Match) → ((m z : Match) → P m → P z → Precedes m.spot z.spot → (f m).earlier < (f z).earlier) → All P ms → AreMatchesOrdered ms → AreRising (map f ms)
map_rises P f [] to all ordered = tt
map_rises P f (m ∷ ms) to all ordered =
    let rest : All P ms = All-tail P m ms all in
    let both : All (λ z. P z × Precedes m.spot z.spot) ms = λ k d lt. (rest k d lt, ordered.0 k d lt) in
    (map_each (λ z. P z × Precedes m.spot z.spot) (λ (q : Pair). (f m).earlier < q.earlier) f ms (λ z h. to m z (All-head P m ms all) h.0 h.1) both, map_rises P f ms to rest ordered.1)

abbrev pair_of : ℕ → ℕ → Pair
pair_of v w = record { earlier = v; later = w }

state_are : (bounds : Bounds) (table : Layout) (a b s : ℕ) (passes : Bool → Bool) (ms : List Match) → IsTable bounds → AreInOrder bounds → IsLayout bounds table → s < bounds.states → ((c : Bool) → passes c ≡ true → c ≡ true → s ≡ 0) → ((c : Bool) → (c ≡ true → s ≡ 0) → passes c ≡ true) → AreMatches bounds.relations a b passes ms → AreStatePairs bounds a b s (map (pair_in table s) ms)
state_are bounds table a b s passes ms placed order laid lt only all are = record {
  each = map_each (λ m. IsSomeMatch bounds.relations a b m × (passes m.fixed ≡ true)) (IsPairAt bounds a b s) (pair_in table s) ms
      (λ m h. match_pair bounds table a b s m laid lt h.0 (only m.fixed h.1)) are.each;
  rising = map_rises (λ m. IsSomeMatch bounds.relations a b m × (passes m.fixed ≡ true)) (pair_in table s) ms
      (λ m z h k before. match_rises bounds table a b s m z order laid lt h.0 k.0 (only m.fixed h.1) (only z.fixed k.1) before) are.each are.ordered;
  every = λ p at.
      let r : ℕ = at.0 in
      let t : List ℕ = at.1 in
      let one = at.2 in
      let two = at.3 in
      let c : Bound = one.0 in
      let d : Bound = two.0 in
      let row = one.2 in
      let there = two.2.relation in
      let here = row.relation in
      let same : d ≡ c = cc in
      let place : ℕ = one.1 in
      let other : ℕ = two.1 in
      let first = first_is bounds table s r c laid row.relation lt in
      let v = one.4 in
      let w : p.later ≡ variable_of bounds.relations c s other = subst (λ (x : Bound). p.later ≡ variable_of bounds.relations x s other) same two.4 in
      let rises = at.4 in
      let less : place < other = omega (arith, v, w, rises) in
      let found = are.every r place other c t row.relation one.3 (subst (λ (x : Bound). slice_get x.upper.tuples other ≡ Some (map (exchanged a b) t)) same two.3) less (all c.fixed row.own) in
      let m : Match = record { spot = record { order = c.order; relation = r; place = place }; other = other; fixed = c.fixed } in
      let earlier : first_in table s r + place ≡ p.earlier = ap (λ (n : ℕ). n + place) first ∙ sym v in
      let later : first_in table s r + other ≡ p.later = ap (λ (n : ℕ). n + other) first ∙ sym w in
      let is : pair_in table s m ≡ p = ap (λ (n : ℕ). pair_of n (first_in table s r + other)) earlier ∙ ap (λ (n : ℕ). pair_of p.earlier n) later in
      subst (λ (q : Pair). Contains (map (pair_in table s) ms) q) is (map_here (pair_in table s) ms m found);
}

state_pairs_are : (bounds : Bounds) (table : Layout) (a b s : ℕ) (ms : List Match) → IsTable bounds → AreInOrder bounds → IsLayout bounds table → s < bounds.states → AreMatches bounds.relations a b all_fixed ms → AreStatePairs bounds a b s (state_pairs table ms (moving ms) s)
state_pairs_are bounds table a b zero ms placed order laid lt are = state_are bounds table a b zero all_fixed ms placed order laid lt (λ c on fixed. refl) (λ c own. refl) are
state_pairs_are bounds table a b (suc s) ms placed order laid lt are = state_are bounds table a b (suc s) not (moving ms) placed order laid lt changes stays (moving_are bounds.relations a b ms are)
  where
    changes : (c : Bool) → not c ≡ true → c ≡ true → suc s ≡ 0
    changes true off on = absurd (false≢true off)
    changes false off on = absurd (false≢true on)

    stays : (c : Bool) → (c ≡ true → suc s ≡ 0) → not c ≡ true
    stays true own = absurd (let none = own refl in omega (arith, none))
    stays false own = refl

-- ---- the pairs of the first states

pub record ArePairsTo (bounds : Bounds) (a b n : ℕ) (ps : List Pair) : Type 0 where
  pub each : All (IsPairTo bounds a b n) ps
  pub rising : AreRising ps
  pub every : (s : ℕ) (p : Pair) → s < n → IsPairAt bounds a b s p → Contains ps p

rising_append : (xs ys : List Pair) → AreRising xs → AreRising ys → All (λ (p : Pair). All (λ (q : Pair). p.earlier < q.earlier) ys) xs → AreRising (xs ++ ys)
rising_append [] ys one two across = two
rising_append (x ∷ xs) ys one two across =
    let Q : Pair → Type 0 = λ (p : Pair). All (λ (q : Pair). p.earlier < q.earlier) ys in
    (All-append (λ (q : Pair). x.earlier < q.earlier) xs ys one.0 (All-head Q x xs across), rising_append xs ys one.1 two (All-tail Q x xs across))

-- pairs of an earlier state are earlier
states_rise : (bounds : Bounds) (a b s z : ℕ) (p q : Pair) → AreInOrder bounds → s < z → IsPairAt bounds a b s p → IsPairAt bounds a b z q → p.earlier < q.earlier
states_rise bounds a b s z p q order lt one two =
    let c = one.2 in
    let d = two.2 in
    let less = order.rise s z one.0 two.0 c.1 d.1 c.0 d.0 c.2 d.2 (inl lt) in
    let v = c.4 in
    let w = d.4 in
    omega (arith, less, v, w)

pairs_to_are : (bounds : Bounds) (table : Layout) (a b n : ℕ) (ms : List Match) → IsTable bounds → AreInOrder bounds → IsLayout bounds table → n ≤ bounds.states → AreMatches bounds.relations a b all_fixed ms → ArePairsTo bounds a b n (pairs_to table ms n)
pairs_to_are bounds table a b zero ms placed order laid le are = record { each = All-nil (IsPairTo bounds a b 0); rising = tt; every = λ s p lt at. absurd (omega (arith, lt)) }
pairs_to_are bounds table a b (suc n) ms placed order laid le are =
    let was = pairs_to_are bounds table a b n ms placed order laid (omega (arith, le)) are in
    let now = state_pairs_are bounds table a b n ms placed order laid (omega (arith, le)) are in
    let xs : List Pair = pairs_to table ms n in
    let ys : List Pair = state_pairs table ms (moving ms) n in
    record {
      each = All-append (IsPairTo bounds a b (suc n)) xs ys
          (All-weaker (IsPairTo bounds a b n) (IsPairTo bounds a b (suc n)) (λ p h. (h.0, (let lt = h.1 in omega (arith, lt)), h.2)) xs was.each)
          (All-weaker (IsPairAt bounds a b n) (IsPairTo bounds a b (suc n)) (λ p h. (n, omega arith, h)) ys now.each);
      rising = rising_append xs ys was.rising now.rising
          (All-weaker (IsPairTo bounds a b n) (λ (p : Pair). All (λ (q : Pair). p.earlier < q.earlier) ys)
          (λ p h. All-weaker (IsPairAt bounds a b n) (λ (q : Pair). p.earlier < q.earlier) (λ q k. states_rise bounds a b h.0 n p q order h.1 h.2 k) ys now.each) xs was.each);
      every = λ s p lt at. elim (cases_lt s n) [
        | inl less ↦ Contains-append_left xs ys p (was.every s p less at)
        | inr far ↦
            let same : s ≡ n = omega (arith, far, lt) in
            Contains-append_right xs ys p (now.every p (subst (λ (k : ℕ). IsPairAt bounds a b k p) same at))
      ];
    }

-- ---- the first so many

rising_take : (n : ℕ) (ps : List Pair) → AreRising ps → AreRising (take n ps)
rising_take zero ps rising = tt
rising_take (suc n) [] rising = tt
rising_take (suc n) (p ∷ ps) rising = (All-take (λ (q : Pair). p.earlier < q.earlier) n ps rising.0, rising_take n ps rising.1)

get_all : (P : Pair → Type 0) (ps : List Pair) (k : ℕ) (p : Pair) → All P ps → slice_get ps k ≡ Some p → P p
get_all P [] k p all at = cc
get_all P (q ∷ ps) zero p all at = let is : q ≡ p = cc in subst P is (All-head P q ps all)
get_all P (q ∷ ps) (suc k) p all at = get_all P ps k p (All-tail P q ps all) at

rising_get : (ps : List Pair) (j k : ℕ) (p q : Pair) → AreRising ps → j < k → slice_get ps j ≡ Some p → slice_get ps k ≡ Some q → p.earlier < q.earlier
rising_get [] j k p q rising lt one two = cc
rising_get (x ∷ ps) zero zero p q rising lt one two = absurd (omega (arith, lt))
rising_get (x ∷ ps) zero (suc k) p q rising lt one two =
    let is : x ≡ p = cc in
    subst (λ (y : Pair). y.earlier < q.earlier) is (get_all (λ (z : Pair). x.earlier < z.earlier) ps k q rising.0 two)
rising_get (x ∷ ps) (suc j) zero p q rising lt one two = absurd (omega (arith, lt))
rising_get (x ∷ ps) (suc j) (suc k) p q rising lt one two = rising_get ps j k p q rising.1 (omega (arith, lt)) one two

listed_take : (n : ℕ) (ps : List Pair) (p : Pair) → AreRising ps → Contains ps p → Contains (take n ps) p ⊎ ((length (take n ps) ≡ n) × All (λ (q : Pair). q.earlier < p.earlier) (take n ps))
listed_take zero ps p rising among = inr (refl, All-nil (λ (q : Pair). q.earlier < p.earlier))
listed_take (suc n) [] p rising among = absurd (no_members p among)
listed_take (suc n) (q ∷ ps) p rising among = elim (cons_cases q ps p among) [
  | inl is ↦ inl (cons_here q (take n ps) p is)
  | inr later ↦ elim (listed_take n ps p rising.1 later) [
    | inl here ↦ inl (cons_later q (take n ps) p here)
    | inr full ↦ inr (ap (λ (m : ℕ). suc m) full.0, All-cons (λ (x : Pair). x.earlier < p.earlier) q (take n ps) (All-contains (λ (x : Pair). q.earlier < x.earlier) ps p rising.0 later) full.1)
  ]
]

pub pairs_are_first : (bounds : Bounds) (table : Layout) (a b most : ℕ) (ms : List Match) → IsTable bounds → AreInOrder bounds → IsLayout bounds table → AreMatches bounds.relations a b all_fixed ms → ArePairs bounds most a b (take most (pairs_to table ms bounds.states))
pairs_are_first bounds table a b most ms placed order laid are =
    let all = pairs_to_are bounds table a b bounds.states ms placed order laid (omega arith) are in
    let ps : List Pair = pairs_to table ms bounds.states in
    record {
      partners = All-take (λ (p : Pair). ArePartners bounds a b p.earlier p.later) most ps
          (All-weaker (IsPairTo bounds a b bounds.states) (λ (p : Pair). ArePartners bounds a b p.earlier p.later) (λ p h. (h.0, h.2.0, h.2.1, h.2.2, h.2.3, h.2.4)) ps all.each);
      rising = λ j k p q lt one two. rising_get (take most ps) j k p q (rising_take most ps all.rising) lt one two;
      few = (let long = length-take most ps in omega (arith, long));
      listed = λ v w at.
          let row = at.3.2 in
          listed_take most ps (record { earlier = v; later = w }) all.rising (all.every at.0 (record { earlier = v; later = w }) row.state (at.1, at.2, at.3, at.4, at.5));
    }
