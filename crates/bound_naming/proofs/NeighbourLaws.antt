-- Which atoms the bounds don't tell apart, and their pairs. As far as tuples go that have one of two atoms, the index has them.
use Rattle.std.proofs.Common.{◌≡◌, ◌⊎◌, inl, inr, ℕ, ◌+◌, ◌-◌, ◌<◌, ◌≤◌, eqb, Bool, true, false, List, [], ◌∷◌, ◌++◌, map, length, take, get_or, slice_get, Some, All, Contains, refl, ap, sym, ◌∙◌, subst, arith}
use Rattle.std.proofs.lemmas.Bool.{cases_lt, eq-eqb, or_parts}
use Rattle.std.proofs.lemmas.List.Elements.{All-nil, All-push, All-contains, Contains-push, Contains-append_left}
use Rattle.std.proofs.lemmas.Option.{slice_get-get_or, get_or_from_slice_get, slice_get_within}
use Rattle.core_tuples.specs.Sets.{In}
use Rattle.core_tuples.proofs.OrderLemmas.{take_all}
use Rattle.core_renaming.specs.Composed.{exchanged, exchanged_other}
use Rattle.bound_uppers.specs.declared.table.Bound.{Bound}
use Rattle.bound_uppers.specs.declared.table.Bounds.{Bounds}
use Rattle.bound_uppers.specs.declared.places.Layout.{Layout}
use Rattle.bound_uppers.specs.Table.{IsTable, AreInOrder}
use Rattle.bound_naming.specs.declared.pairs.Pair.{Pair}
use Rattle.bound_naming.specs.declared.spots.Spot.{Spot}
use Rattle.bound_naming.specs.Naming.{ArePairs, AreInterchangeable, AreSomePairs, AreAllPairs}
use Rattle.bound_naming.specs.Reckoned.{has_atom, AreSpots, IsIndex, matches_of, pairs_to, IsReady, Stays, AllStay, ArePairsTo}
use Rattle.bound_naming.proofs.PartnerLaws.{matches_are}
use Rattle.bound_naming.proofs.States.{pairs_are_first}

-- ---- two atoms

pub next_are : (bounds : Bounds) (bs : List Bound) (table : Layout) (lists : List (List Spot)) (a b most : ℕ) (ps : List Pair) → AreInOrder bounds → bs ≡ bounds.relations → b ≡ a + 1 → a < length lists → ps ≡ take most (pairs_to table (matches_of bs a b (get_or lists a [])) bounds.states) → IsReady bounds table lists → ArePairs bounds most a (a + 1) ps
next_are bounds bs table lists a b most ps order are next lt e ready =
    let placed = ready.placed in
    let step : ps ≡ take most (pairs_to table (matches_of bounds.relations a (a + 1) (get_or lists a [])) bounds.states) =
    e ∙ (ap (λ (xs : List Bound). take most (pairs_to table (matches_of xs a b (get_or lists a [])) bounds.states)) are
    ∙ ap (λ (n : ℕ). take most (pairs_to table (matches_of bounds.relations a n (get_or lists a [])) bounds.states)) next) in
    subst (λ (qs : List Pair). ArePairs bounds most a (a + 1) qs) (sym step)
    (pairs_are_first bounds table a (a + 1) most (matches_of bounds.relations a (a + 1) (get_or lists a [])) placed order ready.laid
    (matches_are bounds a (a + 1) (get_or lists a []) ready.sets (omega arith) (ready.index.each a lt) (λ r c at. placed.placed r c at)))

-- ---- a tuple that has neither of two atoms

apart_from : (a c : ℕ) → eqb c a ≡ false → c ≡ a → ⊥
apart_from a c off is = let on : eqb c a ≡ true = eq-eqb c a is in cc

same_tuple : (a b : ℕ) (t : List ℕ) → has_atom a t ≡ false → has_atom b t ≡ false → map (exchanged a b) t ≡ t
same_tuple a b [] one two = refl
same_tuple a b (c ∷ t) one two =
    let (first, ones) = or_parts (eqb c a) (has_atom a t) one in
    let (second, twos) = or_parts (eqb c b) (has_atom b t) two in
    let head : exchanged a b c ≡ c = exchanged_other a b c (apart_from a c first) (apart_from b c second) in
    ap (λ (x : ℕ). x ∷ map (exchanged a b) t) head ∙ ap (λ (u : List ℕ). c ∷ u) (same_tuple a b t ones twos)

-- ---- what the test says

place_of : (ts : List (List ℕ)) (t : List ℕ) → Contains ts t → (k : ℕ) × (slice_get ts k ≡ Some t)
place_of ts t (k, lt, e) = (k, slice_get-get_or ts k t lt ∙ ap Some e)

among : (ts : List (List ℕ)) (k : ℕ) (t : List ℕ) → slice_get ts k ≡ Some t → Contains ts t
among ts k t at = (k, slice_get_within ts k t at, get_or_from_slice_get ts k t t at)

-- a tuple that has an atom of the index is carried into its bound
carried : (bounds : Bounds) (a b c r k : ℕ) (spots : List Spot) (d : Bound) (t : List ℕ) → IsTable bounds → AreSpots bounds.relations c (length bounds.relations) spots → All (Stays bounds.relations a b) spots
    → slice_get bounds.relations r ≡ Some d → slice_get d.upper.tuples k ≡ Some t → has_atom c t ≡ true → In (map (exchanged a b) t) d.upper
carried bounds a b c r k spots d t table are stay get at has =
    let spot : Spot = record { order = d.order; relation = r; place = k } in
    All-contains (Stays bounds.relations a b) spots spot stay (are.every r k d t get (table.placed r d get) at has) d t get at

closed_by : (bounds : Bounds) (atoms a : ℕ) (lists : List (List Spot)) → IsTable bounds → IsIndex bounds.relations atoms (length bounds.relations) lists → a + 1 < atoms → AllStay bounds.relations lists a
    → (r : ℕ) (d : Bound) (t : List ℕ) → slice_get bounds.relations r ≡ Some d → In t d.upper → In (map (exchanged a (a + 1)) t) d.upper
closed_by bounds atoms a lists table index within stay r d t get is_in = by_atom (has_atom a t) (has_atom (a + 1) t) refl refl
  where
    at : (k : ℕ) × (slice_get d.upper.tuples k ≡ Some t)
    at = place_of d.upper.tuples t is_in

    by_atom : (x y : Bool) → has_atom a t ≡ x → has_atom (a + 1) t ≡ y → In (map (exchanged a (a + 1)) t) d.upper
    by_atom true y one two = carried bounds a (a + 1) a r at.0 (get_or lists a []) d t table (index.each a (omega (arith, within))) stay.0 get at.1 one
    by_atom false true one two = carried bounds a (a + 1) (a + 1) r at.0 (get_or lists (a + 1) []) d t table (index.each (a + 1) within) stay.1 get at.1 two
    by_atom false false one two = subst (λ (u : List ℕ). In u d.upper) (sym (same_tuple a (a + 1) t one two)) is_in

pub alike_are : (bounds : Bounds) (atoms a : ℕ) (lists : List (List Spot)) → IsTable bounds → IsIndex bounds.relations atoms (length bounds.relations) lists → a + 1 < atoms → AllStay bounds.relations lists a → AreInterchangeable bounds atoms a
alike_are bounds atoms a lists table index within stay = record { within = within; closed = closed_by bounds atoms a lists table index within stay }

all_stay : (bounds : Bounds) (atoms a : ℕ) (spots : List Spot) → AreInterchangeable bounds atoms a → All (Stays bounds.relations a (a + 1)) spots
all_stay bounds atoms a spots are = λ k s lt c t get at. are.closed (get_or spots k s).relation c t get (among c.upper.tuples (get_or spots k s).place t at)

pub stay_alike : (bounds : Bounds) (atoms a : ℕ) (lists : List (List Spot)) → AreInterchangeable bounds atoms a → AllStay bounds.relations lists a
stay_alike bounds atoms a lists are = (all_stay bounds atoms a (get_or lists a []) are, all_stay bounds atoms a (get_or lists (a + 1) []) are)

-- the tuples that were tried, and all of them
pub taken_all : (bs : List Bound) (a b k : ℕ) (spots : List Spot) → length spots ≤ k → All (Stays bs a b) (take k spots) → All (Stays bs a b) spots
taken_all bs a b k spots far all = subst (λ (xs : List Spot). All (Stays bs a b) xs) (take_all spots k far) all

-- ---- the pairs of the first atoms

pub none_yet : (bounds : Bounds) (atoms most : ℕ) → ArePairsTo bounds atoms most 0 []
none_yet bounds atoms most = record { only = All-nil (AreSomePairs bounds atoms most); every = λ a lt. absurd (omega arith) }

before_or_at : (a n : ℕ) → a < n + 1 → (a < n) ⊎ (a ≡ n)
before_or_at a n lt = elim (cases_lt a n) [ inl less ↦ inl less | inr past ↦ inr (omega (arith, lt, past)) ]

pub next_none : (bounds : Bounds) (atoms most n : ℕ) (all : List (List Pair)) → (AreInterchangeable bounds atoms n → ⊥) → ArePairsTo bounds atoms most n all → ArePairsTo bounds atoms most (n + 1) all
next_none bounds atoms most n all not before = record {
  only = before.only;
  every = λ a lt are. elim (before_or_at a n lt) [ inl less ↦ before.every a less are | inr same ↦ absurd (not (subst (AreInterchangeable bounds atoms) same are)) ];
}

pub next_some : (bounds : Bounds) (atoms most n : ℕ) (all : List (List Pair)) (pairs : List Pair) → AreInterchangeable bounds atoms n → ArePairs bounds most n (n + 1) pairs → ArePairsTo bounds atoms most n all → ArePairsTo bounds atoms most (n + 1) (all ++ pairs ∷ [])
next_some bounds atoms most n all pairs alike are before = record {
  only = All-push (AreSomePairs bounds atoms most) all pairs before.only (n, alike, are);
  every = λ a lt other. elim (before_or_at a n lt) [
    | inl less ↦ let (ps, there, some) = before.every a less other in (ps, Contains-append_left all (pairs ∷ []) ps there, some)
    | inr same ↦ (pairs, Contains-push all pairs, subst (λ (m : ℕ). ArePairs bounds most m (m + 1) pairs) (sym same) are)
  ];
}

pub all_atoms : (bounds : Bounds) (atoms most n : ℕ) (all : List (List Pair)) → atoms - 1 ≤ n → ArePairsTo bounds atoms most n all → AreAllPairs bounds atoms most all
all_atoms bounds atoms most n all last done = record {
  only = done.only;
  every = λ a are. let within = are.within in done.every a (omega (arith, last, within)) are;
}
