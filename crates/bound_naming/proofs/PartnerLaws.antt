-- What the matches have: all partners in the upper bounds, the earlier tuple first, in order.
use Rattle.std.proofs.Common.{◌≡◌, inl, inr, ℕ, zero, suc, ◌+◌, ◌<◌, eqb, nat_lt, Bool, true, false, not, ◌||◌, cond, if◌then◌else◌, List, [], ◌∷◌, length, get_or, filter, slice_get, Option, Some, None, All, Contains, refl, ap, sym, ◌∙◌, subst, arith}
use Rattle.std.specs.Prelude.{map}
use Rattle.std.specs.Ordering.{nat_cmp, ordering_then}
use Rattle.std.specs.declared.cmp.Ordering.{Ordering}
use Rattle.std.specs.declared.cmp.Ordering.TheVariants.{Less, Equal, Greater}
use Rattle.std.specs.List.Sorted.{IsStrictlySortedBy}
use Rattle.std.specs.Cmp.{nat_cmp_is}
use Rattle.std.proofs.lemmas.Bool.{cases_eq, eq-eqb, ltb-true, lt-ltb, false≢true}
use Rattle.std.proofs.lemmas.List.Elements.{All-nil, All-cons, All-head, All-tail, All-weaker}
use Rattle.std.proofs.lemmas.Option.{slice_get-get_or}
use Rattle.core_tuples.specs.Sets.{tuple_cmp, is_same, IsTupleSet}
use Rattle.core_tuples.proofs.OrderLemmas.{cons_cases, cons_here, cons_later, no_members}
use Rattle.core_tuples.proofs.OrderedLemmas.{same_exact, sorted_back, head_below}
use Rattle.core_renaming.specs.Composed.{exchanged, exchanged_second, exchanged_other}
use Rattle.bound_uppers.specs.declared.table.Bound.{Bound}
use Rattle.bound_uppers.specs.declared.table.Bounds.{Bounds}
use Rattle.bound_uppers.specs.Candidates.{HasSets}
use Rattle.bound_naming.specs.declared.spots.Spot.{Spot}
use Rattle.bound_naming.specs.declared.partners.Match.{Match}
use Rattle.bound_naming.specs.Reckoned.{has_atom, IsSpot, Precedes, AreOrdered, AreSpots, place_in, if_later, partner_in, partner_of, with_item, matches_of, moving}
use Rattle.bound_naming.proofs.Finding.{rec_get, found_is}

-- ---- the earlier of two partners has the lower atom

without_head : (a b x : ℕ) (rest : Ordering) → a < b → (x ≡ a → ⊥) → ordering_then (nat_cmp x (exchanged a b x)) rest ≡ Less → rest ≡ Less
without_head a b x rest lt one less = elim (cases_eq x b) [
  | inl is ↦
      let low : exchanged a b x < x = (let e : exchanged a b x ≡ a = ap (exchanged a b) is ∙ exchanged_second a b in omega (arith, e, is, lt)) in
      let above : nat_cmp x (exchanged a b x) ≡ Greater = sym (nat_cmp_is x (exchanged a b x) Greater low) in
      let is_above : ordering_then (nat_cmp x (exchanged a b x)) rest ≡ Greater = ap (λ (o : Ordering). ordering_then o rest) above in
      cc
  | inr two ↦
      let same : nat_cmp x (exchanged a b x) ≡ Equal = sym (nat_cmp_is x (exchanged a b x) Equal (sym (exchanged_other a b x one two))) in
      sym (ap (λ (o : Ordering). ordering_then o rest) same) ∙ less
]

or_parts : (p q : Bool) → (p || q) ≡ false → (p ≡ false) × (q ≡ false)
or_parts true q e = absurd (false≢true (sym e))
or_parts false q e = (refl, e)

without : (a b : ℕ) (t : List ℕ) → a < b → has_atom a t ≡ false → tuple_cmp t (map (exchanged a b) t) ≡ Less → ⊥
without a b [] lt none less = cc
without a b (x ∷ t) lt none less =
    let parts = or_parts (eqb x a) (has_atom a t) none in
    let other : x ≡ a → ⊥ = λ is. false≢true (sym parts.0 ∙ eq-eqb x a is) in
    without a b t lt parts.1 (without_head a b x (tuple_cmp t (map (exchanged a b) t)) lt other less)

pub has_lower : (a b : ℕ) (t : List ℕ) → a < b → tuple_cmp t (map (exchanged a b) t) ≡ Less → has_atom a t ≡ true
has_lower a b t lt less = by_test (has_atom a t) refl
  where
    by_test : (c : Bool) → has_atom a t ≡ c → has_atom a t ≡ true
    by_test true e = e
    by_test false e = absurd (without a b t lt e less)

pub sorted_less : (ts : List (List ℕ)) (j k : ℕ) (t u : List ℕ) → IsStrictlySortedBy tuple_cmp ts → j < k → slice_get ts j ≡ Some t → slice_get ts k ≡ Some u → tuple_cmp t u ≡ Less
sorted_less [] j k t u sorted lt one two = cc
sorted_less (x ∷ ts) zero zero t u sorted lt one two = absurd (omega arith)
sorted_less (x ∷ ts) zero (suc k) t u sorted lt one two =
    let is : x ≡ t = cc in
    subst (λ (y : List ℕ). tuple_cmp y u ≡ Less) is (rec_get (λ (z : List ℕ). tuple_cmp x z ≡ Less) ts k u (head_below x ts sorted) two)
sorted_less (x ∷ ts) (suc j) zero t u sorted lt one two = absurd (omega (arith, lt))
sorted_less (x ∷ ts) (suc j) (suc k) t u sorted lt one two = sorted_less ts j k t u (sorted_back (x ∷ []) ts sorted) (omega (arith, lt)) one two

-- ---- one match

-- a tuple of an upper bound and its later partner
pub record IsMatch (bs : List Bound) (a b : ℕ) (m : Match) (bound : Bound) (t : List ℕ) : Type 0 where
  pub relation : slice_get bs m.spot.relation ≡ Some bound
  pub order : m.spot.order ≡ bound.order
  pub same : m.fixed ≡ bound.fixed
  pub here : slice_get bound.upper.tuples m.spot.place ≡ Some t
  pub there : slice_get bound.upper.tuples m.other ≡ Some (map (exchanged a b) t)
  pub later : m.spot.place < m.other

abbrev pub IsSomeMatch : List Bound → ℕ → ℕ → Match → Type 0
IsSomeMatch bs a b m = (bound : Bound) × (t : List ℕ) × IsMatch bs a b m bound t

place_case : (c : Bool) (t u : List ℕ) (n k : ℕ) (us : List (List ℕ)) → is_same u t ≡ c → ((place_in t (suc n) us ≡ Some k) → (j : ℕ) × (k ≡ suc n + j) × (slice_get us j ≡ Some t)) → (if c then Some n else place_in t (suc n) us) ≡ Some k → (j : ℕ) × (k ≡ n + j) × (slice_get (u ∷ us) j ≡ Some t)
place_case true t u n k us e rest is =
    let it : u ≡ t = same_exact u t e in
    let at : n ≡ k = cc in
    (0, (let same : k ≡ n + 0 = omega (arith, at) in same), ap (λ (x : List ℕ). Some x) it)
place_case false t u n k us e rest is =
    let found = rest is in
    let j : ℕ = found.0 in
    let at = found.1 in
    (suc j, (let same : k ≡ n + suc j = omega (arith, at) in same), found.2)

place_found : (t : List ℕ) (n k : ℕ) (us : List (List ℕ)) → place_in t n us ≡ Some k → (j : ℕ) × (k ≡ n + j) × (slice_get us j ≡ Some t)
place_found t n k [] is = cc
place_found t n k (u ∷ us) is = place_case (is_same u t) t u n k us refl (λ more. place_found t (suc n) k us more) is

found_place : (t : List ℕ) (k : ℕ) (us : List (List ℕ)) → place_in t 0 us ≡ Some k → slice_get us k ≡ Some t
found_place t k us is =
    let found = place_found t 0 k us is in
    let at = found.1 in
    let same : found.0 ≡ k = omega (arith, at) in
    subst (λ (m : ℕ). slice_get us m ≡ Some t) same found.2

abbrev match_at : Spot → ℕ → Bool → Match
match_at s other fixed = record { spot = s; other = other; fixed = fixed }

later_case : (c : Bool) (s : Spot) (fixed : Bool) (other : ℕ) (m : Match) → nat_lt s.place other ≡ c → (if c then Some (match_at s other fixed) else None) ≡ Some m → (s.place < other) × (match_at s other fixed ≡ m)
later_case true s fixed other m e is = (ltb-true s.place other e, (let same : match_at s other fixed ≡ m = cc in same))
later_case false s fixed other m e is = cc

later_is : (s : Spot) (fixed : Bool) (o : Option ℕ) (m : Match) → if_later s fixed o ≡ Some m → (other : ℕ) × (o ≡ Some other) × (s.place < other) × (match_at s other fixed ≡ m)
later_is s fixed None m is = cc
later_is s fixed (Some other) m is = let found = later_case (nat_lt s.place other) s fixed other m refl is in (other, refl, found.0, found.1)

tuple_there : (ts : List (List ℕ)) (k : ℕ) → k < length ts → (t : List ℕ) × (slice_get ts k ≡ Some t)
tuple_there ts k lt = (get_or ts k [], slice_get-get_or ts k [] lt)

pub match_is : (bs : List Bound) (a b : ℕ) (s : Spot) (m : Match) → IsSpot bs s → partner_of a b s (slice_get bs s.relation) ≡ Some m → IsSomeMatch bs a b m × (m.spot ≡ s)
match_is bs a b s m spot is =
    let bound : Bound = spot.0 in
    let ts : List (List ℕ) = bound.upper.tuples in
    let within = tuple_there ts s.place spot.3 in
    let t : List ℕ = within.0 in
    let u : List ℕ = map (exchanged a b) t in
    let by_tuple : if_later s bound.fixed (place_in u 0 ts) ≡ Some m =
    sym (ap (λ (o : Option (List ℕ)). partner_in a b s bound o) within.1) ∙ (sym (ap (λ (o : Option Bound). partner_of a b s o) spot.1) ∙ is) in
    let found = later_is s bound.fixed (place_in u 0 ts) m by_tuple in
    let made : IsSomeMatch bs a b (match_at s found.0 bound.fixed) = (bound, t, record { relation = spot.1; order = spot.2; same = refl; here = within.1; there = found_place u found.0 ts found.1; later = found.2 }) in
    (subst (IsSomeMatch bs a b) found.3 made, sym (ap (λ (x : Match). x.spot) found.3))

pub match_found : (bs : List Bound) (a b r place other : ℕ) (bound : Bound) (t : List ℕ) → IsTupleSet bound.upper → slice_get bs r ≡ Some bound → slice_get bound.upper.tuples place ≡ Some t → slice_get bound.upper.tuples other ≡ Some (map (exchanged a b) t) → place < other →
    partner_of a b (record { order = bound.order; relation = r; place = place }) (slice_get bs r) ≡ Some (record { spot = record { order = bound.order; relation = r; place = place }; other = other; fixed = bound.fixed })
match_found bs a b r place other bound t set at here there lt =
    let s : Spot = record { order = bound.order; relation = r; place = place } in
    let ts : List (List ℕ) = bound.upper.tuples in
    ap (λ (o : Option Bound). partner_of a b s o) at
    ∙ (ap (λ (o : Option (List ℕ)). partner_in a b s bound o) here
    ∙ (ap (λ (o : Option ℕ). if_later s bound.fixed o) (sym (found_is ts other (map (exchanged a b) t) set.sorted there))
    ∙ ap (λ (c : Bool). if c then Some (match_at s other bound.fixed) else None) (lt-ltb place other lt)))

-- ---- all matches

abbrev pub AreMatchesOrdered : List Match → Type 0
AreMatchesOrdered [] = Unit {0}
AreMatchesOrdered (m ∷ ms) = All (λ (z : Match). Precedes m.spot z.spot) ms × AreMatchesOrdered ms

-- the partners of those relations that may be looked at: all, or those that change
pub record AreMatches (bs : List Bound) (a b : ℕ) (passes : Bool → Bool) (ms : List Match) : Type 0 where
  pub each : All (λ m. IsSomeMatch bs a b m × (passes m.fixed ≡ true)) ms
  pub ordered : AreMatchesOrdered ms
  pub every : (r place other : ℕ) (bound : Bound) (t : List ℕ) → slice_get bs r ≡ Some bound → slice_get bound.upper.tuples place ≡ Some t → slice_get bound.upper.tuples other ≡ Some (map (exchanged a b) t) → place < other → passes bound.fixed ≡ true → Contains ms (record { spot = record { order = bound.order; relation = r; place = place }; other = other; fixed = bound.fixed })

item_all : (P : Match → Type 0) (o : Option Match) (ms : List Match) → ((m : Match) → o ≡ Some m → P m) → All P ms → All P (with_item o ms)
item_all P None ms here all = all
item_all P (Some m) ms here all = All-cons P m ms (here m refl) all

item_here : (o : Option Match) (m : Match) (ms : List Match) → o ≡ Some m → Contains (with_item o ms) m
item_here None m ms is = cc
item_here (Some x) m ms is = let same : m ≡ x = cc in cons_here x ms m same

item_later : (o : Option Match) (m : Match) (ms : List Match) → Contains ms m → Contains (with_item o ms) m
item_later None m ms among = among
item_later (Some x) m ms among = cons_later x ms m among

item_ordered : (o : Option Match) (ms : List Match) → ((m : Match) → o ≡ Some m → All (λ (z : Match). Precedes m.spot z.spot) ms) → AreMatchesOrdered ms → AreMatchesOrdered (with_item o ms)
item_ordered None ms here ordered = ordered
item_ordered (Some m) ms here ordered = (here m refl, ordered)

matches_each : (P : Match → Type 0) (bs : List Bound) (a b : ℕ) (ss : List Spot) → All (λ s. (m : Match) → partner_of a b s (slice_get bs s.relation) ≡ Some m → P m) ss → All P (matches_of bs a b ss)
matches_each P bs a b [] all = All-nil P
matches_each P bs a b (s ∷ ss) all =
    let Q : Spot → Type 0 = λ z. (m : Match) → partner_of a b z (slice_get bs z.relation) ≡ Some m → P m in
    item_all P (partner_of a b s (slice_get bs s.relation)) (matches_of bs a b ss) (All-head Q s ss all) (matches_each P bs a b ss (All-tail Q s ss all))

matches_every : (bs : List Bound) (a b : ℕ) (ss : List Spot) (s : Spot) (m : Match) → Contains ss s → partner_of a b s (slice_get bs s.relation) ≡ Some m → Contains (matches_of bs a b ss) m
matches_every bs a b [] s m among is = absurd (no_members s among)
matches_every bs a b (z ∷ ss) s m among is = elim (cons_cases z ss s among) [
  | inl same ↦ item_here (partner_of a b z (slice_get bs z.relation)) m (matches_of bs a b ss) (subst (λ (x : Spot). partner_of a b x (slice_get bs x.relation) ≡ Some m) same is)
  | inr later ↦ item_later (partner_of a b z (slice_get bs z.relation)) m (matches_of bs a b ss) (matches_every bs a b ss s m later is)
]

matches_ordered : (bs : List Bound) (a b : ℕ) (ss : List Spot) → All (IsSpot bs) ss → AreOrdered ss → AreMatchesOrdered (matches_of bs a b ss)
matches_ordered bs a b [] all ordered = tt
matches_ordered bs a b (s ∷ ss) all ordered =
    let rest : All (IsSpot bs) ss = All-tail (IsSpot bs) s ss all in
    let both : All (λ z. IsSpot bs z × Precedes s z) ss = λ k d lt. (rest k d lt, ordered.0 k d lt) in
    item_ordered (partner_of a b s (slice_get bs s.relation)) (matches_of bs a b ss)
    (λ m is.
    let first : m.spot ≡ s = (match_is bs a b s m (All-head (IsSpot bs) s ss all) is).1 in
    matches_each (λ (z : Match). Precedes m.spot z.spot) bs a b ss
    (All-weaker (λ z. IsSpot bs z × Precedes s z) (λ z. (n : Match) → partner_of a b z (slice_get bs z.relation) ≡ Some n → Precedes m.spot n.spot)
    (λ z h n made. subst (λ (x : Spot). Precedes x n.spot) (sym first) (subst (λ (x : Spot). Precedes s x) (sym (match_is bs a b z n h.0 made).1) h.1)) ss both))
    (matches_ordered bs a b ss rest ordered.1)

abbrev pub all_fixed : Bool → Bool
all_fixed b = true

pub matches_are : (bounds : Bounds) (a b : ℕ) (ss : List Spot) → HasSets bounds → a < b → AreSpots bounds.relations a (length bounds.relations) ss → ((r : ℕ) (c : Bound) → slice_get bounds.relations r ≡ Some c → c.order < length bounds.relations) → AreMatches bounds.relations a b all_fixed (matches_of bounds.relations a b ss)
matches_are bounds a b ss sets lt spots placed =
    let bs : List Bound = bounds.relations in
    let are : All (IsSpot bs) ss = All-weaker (λ s. IsSpot bs s × (s.order < length bs)) (IsSpot bs) (λ s h. h.0) ss spots.each in
    record {
      each = matches_each (λ m. IsSomeMatch bs a b m × (all_fixed m.fixed ≡ true)) bs a b ss (All-weaker (IsSpot bs) (λ s. (m : Match) → partner_of a b s (slice_get bs s.relation) ≡ Some m → IsSomeMatch bs a b m × (all_fixed m.fixed ≡ true)) (λ s h m is. ((match_is bs a b s m h is).0, refl)) ss are);
      ordered = matches_ordered bs a b ss are spots.ordered;
      every = λ r place other bound t at here there later passes.
          let set = sets r bound at in
          let on : has_atom a t ≡ true = has_lower a b t lt (sorted_less bound.upper.tuples place other t (map (exchanged a b) t) set.sorted later here there) in
          matches_every bs a b ss (record { order = bound.order; relation = r; place = place }) (record { spot = record { order = bound.order; relation = r; place = place }; other = other; fixed = bound.fixed })
          (spots.every r place bound t at (placed r bound at) here on) (match_found bs a b r place other bound t set at here there later);
    }

-- ---- those that change

kept_first : (b : Bool) (rest : List Match) (x m : Match) → b ≡ true → m ≡ x → Contains (cond b (x ∷ rest) rest) m
kept_first true rest x m on is = cons_here x rest m is
kept_first false rest x m on is = absurd (false≢true on)

kept_rest : (b : Bool) (rest : List Match) (x m : Match) → Contains rest m → Contains (cond b (x ∷ rest) rest) m
kept_rest true rest x m among = cons_later x rest m among
kept_rest false rest x m among = among

filter_here : (p : Match → Bool) (ms : List Match) (m : Match) → Contains ms m → p m ≡ true → Contains (filter p ms) m
filter_here p [] m among on = absurd (no_members m among)
filter_here p (x ∷ ms) m among on = elim (cons_cases x ms m among) [
  | inl is ↦ kept_first (p x) (filter p ms) x m (ap p (sym is) ∙ on) is
  | inr later ↦ kept_rest (p x) (filter p ms) x m (filter_here p ms m later on)
]

kept_each : (P : Match → Type 0) (b : Bool) (x : Match) (rest : List Match) → (b ≡ true → P x) → All P rest → All P (cond b (x ∷ rest) rest)
kept_each P true x rest here all = All-cons P x rest (here refl) all
kept_each P false x rest here all = all

filter_each : (P Q : Match → Type 0) (p : Match → Bool) (ms : List Match) → ((m : Match) → P m → p m ≡ true → Q m) → All P ms → All Q (filter p ms)
filter_each P Q p [] to all = All-nil Q
filter_each P Q p (x ∷ ms) to all = kept_each Q (p x) x (filter p ms) (λ on. to x (All-head P x ms all) on) (filter_each P Q p ms to (All-tail P x ms all))

kept_order : (b : Bool) (x : Match) (rest : List Match) → All (λ (z : Match). Precedes x.spot z.spot) rest → AreMatchesOrdered rest → AreMatchesOrdered (cond b (x ∷ rest) rest)
kept_order true x rest all ordered = (all, ordered)
kept_order false x rest all ordered = ordered

filter_ordered : (p : Match → Bool) (ms : List Match) → AreMatchesOrdered ms → AreMatchesOrdered (filter p ms)
filter_ordered p [] ordered = tt
filter_ordered p (x ∷ ms) ordered =
    kept_order (p x) x (filter p ms) (filter_each (λ (z : Match). Precedes x.spot z.spot) (λ (z : Match). Precedes x.spot z.spot) p ms (λ m h on. h) ordered.0) (filter_ordered p ms ordered.1)

pub moving_are : (bs : List Bound) (a b : ℕ) (ms : List Match) → AreMatches bs a b all_fixed ms → AreMatches bs a b not (moving ms)
moving_are bs a b ms are = record {
  each = filter_each (λ m. IsSomeMatch bs a b m × (all_fixed m.fixed ≡ true)) (λ m. IsSomeMatch bs a b m × (not m.fixed ≡ true)) (λ (m : Match). not m.fixed) ms (λ m h on. (h.0, on)) are.each;
  ordered = filter_ordered (λ (m : Match). not m.fixed) ms are.ordered;
  every = λ r place other bound t at here there later passes.
      filter_here (λ (m : Match). not m.fixed) ms (record { spot = record { order = bound.order; relation = r; place = place }; other = other; fixed = bound.fixed }) (are.every r place other bound t at here there later refl) passes;
}
