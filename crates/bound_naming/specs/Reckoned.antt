-- The pairs as they are reckoned: an index of the tuples by their atoms, partners in the upper bounds, and then state by state.
use Rattle.std.specs.Prelude.{◌≡◌, ◌⊎◌, ◌<◌, ◌+◌, ℕ, zero, suc, Bool, true, not, ◌&&◌, if◌then◌else◌, eqb, nat_lt, List, [], ◌∷◌, ◌++◌, length, map, take, filter, get_or, set, All, Contains, Option, Some, None, slice_get, slice_index}
use Rattle.std.specs.List.{list_any}
use Rattle.core_tuples.specs.Sets.{In, is_same}
use Rattle.core_renaming.specs.Composed.{exchanged}
use Rattle.bound_uppers.specs.declared.table.Bound.{Bound}
use Rattle.bound_uppers.specs.declared.table.Bounds.{Bounds}
use Rattle.bound_uppers.specs.declared.places.Cells.{Cells}
use Rattle.bound_uppers.specs.declared.places.Layout.{Layout}
use Rattle.bound_uppers.specs.Table.{IsTable, IsLayout, keep, cell_at}
use Rattle.bound_uppers.specs.Candidates.{HasSets}
use Rattle.bound_naming.specs.declared.pairs.Pair.{Pair}
use Rattle.bound_naming.specs.Naming.{ArePairs, AreInterchangeable, AreSomePairs}
use Rattle.bound_naming.specs.declared.spots.Spot.{Spot}
use Rattle.bound_naming.specs.declared.partners.Match.{Match}

-- ---- the index

-- a tuple has an atom
abbrev pub has_atom : ℕ → List ℕ → Bool
has_atom a t = list_any (λ c. eqb c a) t

-- it stands in this column, and in none before
abbrev pub is_first : ℕ → ℕ → List ℕ → Bool
is_first a column t = not (has_atom a (take column t)) && eqb (slice_index t column) a

-- the lists, with a tuple more at the end of one where there is one
abbrev pub extended_at : List (List Spot) → ℕ → Spot → List (List Spot)
extended_at lists n s = if nat_lt n (length lists) then set lists n (get_or lists n [] ++ s ∷ []) else lists

-- each list grows by these
abbrev pub Grow : List (List Spot) → List (List Spot) → (ℕ → List Spot) → Type 0
Grow old new more = (length new ≡ length old) × ((a : ℕ) → a < length old → get_or new a [] ≡ get_or old a [] ++ more a)

-- a tuple, if it is to stay
abbrev pub one_spot : Bool → Spot → List Spot
one_spot stays s = keep stays s []

-- the tuples of a relation that have an atom, where the first one has this place
abbrev pub spots_in : ℕ → ℕ → ℕ → ℕ → List (List ℕ) → List Spot
spots_in a order r place [] = []
spots_in a order r place (t ∷ ts) = keep (has_atom a t) (record { order = order; relation = r; place = place }) (spots_in a order r (suc place) ts)

-- a tuple of an upper bound
abbrev pub IsSpot : List Bound → Spot → Type 0
IsSpot bs s = (b : Bound) × (slice_get bs s.relation ≡ Some b) × (s.order ≡ b.order) × (s.place < length b.upper.tuples)

-- one stands before another
abbrev pub Precedes : Spot → Spot → Type 0
Precedes s z = (s.order < z.order) ⊎ ((s.order ≡ z.order) × (s.place < z.place))

-- each stands before those after it
abbrev pub AreOrdered : List Spot → Type 0
AreOrdered [] = Unit {0}
AreOrdered (s ∷ ss) = All (Precedes s) ss × AreOrdered ss

-- of the relations at the first places of the order the tuples that have an atom
pub record AreSpots (bs : List Bound) (a n : ℕ) (spots : List Spot) : Type 0 where
  pub each : All (λ s. IsSpot bs s × (s.order < n)) spots
  pub ordered : AreOrdered spots
  pub every : (r place : ℕ) (b : Bound) (t : List ℕ) → slice_get bs r ≡ Some b → b.order < n → slice_get b.upper.tuples place ≡ Some t → has_atom a t ≡ true → Contains spots (record { order = b.order; relation = r; place = place })

-- and for each atom
pub record IsIndex (bs : List Bound) (atoms n : ℕ) (lists : List (List Spot)) : Type 0 where
  pub count : length lists ≡ atoms
  pub each : (a : ℕ) → a < atoms → AreSpots bs a n (get_or lists a [])

-- ---- partners in the upper bounds

-- where a tuple stands among others, the first of which has this place
abbrev pub place_in : List ℕ → ℕ → List (List ℕ) → Option ℕ
place_in t place [] = None
place_in t place (u ∷ us) = if is_same u t then Some place else place_in t (suc place) us

-- a tuple and a later one
abbrev pub if_later : Spot → Bool → Option ℕ → Option Match
if_later s fixed None = None
if_later s fixed (Some other) = if nat_lt s.place other then Some (record { spot = s; other = other; fixed = fixed }) else None

-- the partner of a tuple of an upper bound, if it comes later
abbrev pub partner_in : ℕ → ℕ → Spot → Bound → Option (List ℕ) → Option Match
partner_in a b s bound None = None
partner_in a b s bound (Some t) = if_later s bound.fixed (place_in (map (exchanged a b) t) 0 bound.upper.tuples)

abbrev pub partner_of : ℕ → ℕ → Spot → Option Bound → Option Match
partner_of a b s None = None
partner_of a b s (Some bound) = partner_in a b s bound (slice_get bound.upper.tuples s.place)

-- an item before others, if there is one
abbrev pub with_item : {X : Type 0} → Option X → List X → List X
with_item None xs = xs
with_item (Some x) xs = x ∷ xs

-- the tuples with their partners
abbrev pub matches_of : List Bound → ℕ → ℕ → List Spot → List Match
matches_of bs a b [] = []
matches_of bs a b (s ∷ ss) = with_item (partner_of a b s (slice_get bs s.relation)) (matches_of bs a b ss)

-- those of relations that change
abbrev pub moving : List Match → List Match
moving = filter (λ (m : Match). not m.fixed)

-- ---- pairs of variables

-- the variable of the first tuple of a relation at a state
abbrev pub first_by : ℕ → Option Cells → ℕ
first_by s None = 0
first_by s (Some c) = cell_at c s

abbrev pub first_in : Layout → ℕ → ℕ → ℕ
first_in table s r = first_by s (slice_get table.relations.items r)

abbrev pub pair_in : Layout → ℕ → Match → Pair
pair_in table s m = record { earlier = first_in table s m.spot.relation + m.spot.place; later = first_in table s m.spot.relation + m.other }

-- the pairs of a state
abbrev pub state_pairs : Layout → List Match → List Match → ℕ → List Pair
state_pairs table all rest zero = map (pair_in table zero) all
state_pairs table all rest (suc s) = map (pair_in table (suc s)) rest

-- the pairs of so many states
abbrev pub pairs_to : Layout → List Match → ℕ → List Pair
pairs_to table all zero = []
pairs_to table all (suc n) = pairs_to table all n ++ state_pairs table all (moving all) n

-- ---- neighbours

-- what the pairs are reckoned from
pub record IsReady (bounds : Bounds) (table : Layout) (lists : List (List Spot)) : Type 0 where
  pub placed : IsTable bounds
  pub laid : IsLayout bounds table
  pub index : IsIndex bounds.relations (length lists) (length bounds.relations) lists
  pub sets : HasSets bounds

-- the exchange of a and b carries a tuple of an upper bound into that bound
abbrev pub Stays : List Bound → ℕ → ℕ → Spot → Type 0
Stays bs a b s = (c : Bound) (t : List ℕ) → slice_get bs s.relation ≡ Some c → slice_get c.upper.tuples s.place ≡ Some t → In (map (exchanged a b) t) c.upper

-- and so each tuple that has a or the next atom
abbrev pub AllStay : List Bound → List (List Spot) → ℕ → Type 0
AllStay bs lists a = All (Stays bs a (a + 1)) (get_or lists a []) × All (Stays bs a (a + 1)) (get_or lists (a + 1) [])

-- the pairs of the first so many atoms, each with the next, as far as the bounds don't tell them apart
pub record ArePairsTo (bounds : Bounds) (atoms most n : ℕ) (all : List (List Pair)) : Type 0 where
  pub only : All (AreSomePairs bounds atoms most) all
  pub every : (a : ℕ) → a < n → AreInterchangeable bounds atoms a → (pairs : List Pair) × Contains all pairs × ArePairs bounds most a (a + 1) pairs
