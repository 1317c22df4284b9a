-- The naming. What atoms are called is no part of a model's meaning, so of the lassos that differ in it alone it is enough to
-- look for one: for a canonical one, which at the first pair of tuples that tells two neighbouring atoms apart has the earlier
-- tuple.
use Rattle.std.specs.Prelude.{◌≡◌, ◌↔◌, ◌⊎◌, ◌<◌, ◌≤◌, ◌+◌, ℕ, Bool, true, false, ◌&&◌, List, [], ◌∷◌, length, map, take, All, Contains, Some, slice_get}
use Rattle.core_tuples.specs.Sets.{In}
use Rattle.core_meaning.specs.Sequence.{LassoValue}
use Rattle.core_renaming.specs.Composed.{exchanged}
use Rattle.bound_uppers.specs.declared.table.Bound.{Bound}
use Rattle.bound_uppers.specs.declared.table.Bounds.{Bounds}
use Rattle.bound_uppers.specs.Table.{IsRow, variable_of}
use Rattle.bound_uppers.specs.Candidates.{InState}
use Rattle.bound_naming.specs.declared.pairs.Pair.{Pair}

-- ---- pairs of variables

-- v is the variable of a row of the table: it says that a relation has this tuple at this state
abbrev pub IsCell : Bounds → ℕ → ℕ → List ℕ → ℕ → Type 0
IsCell bounds s r t v = (b : Bound) × (place : ℕ) × IsRow bounds s r place b × (slice_get b.upper.tuples place ≡ Some t) × (v ≡ variable_of bounds.relations b s place)

-- partners for a and b: the variables of two tuples of one relation at one state, of which the exchange of a and b makes each
-- the other; the earlier variable first
abbrev pub ArePartners : Bounds → ℕ → ℕ → ℕ → ℕ → Type 0
ArePartners bounds a b v w = (s r : ℕ) × (t : List ℕ) × IsCell bounds s r t v × IsCell bounds s r (map (exchanged a b) t) w × (v < w)

-- a pair is listed, or so many are, and they all stand before it
abbrev pub IsListed : ℕ → List Pair → ℕ → ℕ → Type 0
IsListed most pairs v w = Contains pairs (record { earlier = v; later = w }) ⊎ ((length pairs ≡ most) × All (λ (p : Pair). p.earlier < v) pairs)

-- the pairs of a and b: of all their partners the first so many, in the order of the table
pub record ArePairs (bounds : Bounds) (most a b : ℕ) (pairs : List Pair) : Type 0 where
  pub partners : All (λ (p : Pair). ArePartners bounds a b p.earlier p.later) pairs
  pub rising : (j k : ℕ) (p q : Pair) → j < k → slice_get pairs j ≡ Some p → slice_get pairs k ≡ Some q → p.earlier < q.earlier
  pub few : length pairs ≤ most
  pub listed : (v w : ℕ) → ArePartners bounds a b v w → IsListed most pairs v w

-- ---- what they ask

-- where all pairs before one agree, its earlier holds if its later does
abbrev pub Favours : (ℕ → Type 0) → List Pair → Type 0
Favours holds pairs = (k : ℕ) (p : Pair) → slice_get pairs k ≡ Some p → All (λ (q : Pair). holds q.earlier ↔ holds q.later) (take k pairs) → holds p.later → holds p.earlier

-- where just one of two is true, it is to be the first; else the rest tells
abbrev pub decides : Bool → Bool → Bool → Bool
decides true true rest = rest
decides true false rest = true
decides false true rest = false
decides false false rest = rest

-- at the first pair on which the values differ, if there is one, the earlier is true
abbrev pub favours : (ℕ → Bool) → List Pair → Bool
favours x [] = true
favours x (p ∷ rest) = decides (x p.earlier) (x p.later) (favours x rest)

-- so it is in each list
abbrev pub favours_all : (ℕ → Bool) → List (List Pair) → Bool
favours_all x [] = true
favours_all x (pairs ∷ rest) = favours x pairs && favours_all x rest

-- ---- of a lasso

-- what the variable says is so: the relation has the tuple at the state
abbrev pub DoesHold : Bounds → LassoValue → ℕ → Type 0
DoesHold bounds lasso v = (s r : ℕ) × (t : List ℕ) × IsCell bounds s r t v × InState lasso s r t

-- two atoms of sigs that follow one another, and that the bounds don't tell apart: their exchange carries each upper bound into
-- itself
pub record AreInterchangeable (bounds : Bounds) (atoms a : ℕ) : Type 0 where
  pub within : a + 1 < atoms
  pub closed : (r : ℕ) (b : Bound) (t : List ℕ) → slice_get bounds.relations r ≡ Some b → In t b.upper → In (map (exchanged a (a + 1)) t) b.upper

-- the pairs of two such atoms
abbrev pub AreSomePairs : Bounds → ℕ → ℕ → List Pair → Type 0
AreSomePairs bounds atoms most pairs = (a : ℕ) × AreInterchangeable bounds atoms a × ArePairs bounds most a (a + 1) pairs

-- the pairs of all such atoms, a list for each two of them
pub record AreAllPairs (bounds : Bounds) (atoms most : ℕ) (all : List (List Pair)) : Type 0 where
  pub only : All (AreSomePairs bounds atoms most) all
  pub every : (a : ℕ) → AreInterchangeable bounds atoms a → (pairs : List Pair) × Contains all pairs × ArePairs bounds most a (a + 1) pairs

-- a lasso is canonical: no pair asks for an exchange
abbrev pub IsCanonical : Bounds → List (List Pair) → LassoValue → Type 0
IsCanonical bounds all lasso = All (Favours (DoesHold bounds lasso)) all
