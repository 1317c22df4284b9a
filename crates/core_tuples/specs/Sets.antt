-- Finite sets of tuples, as sorted lists without repeats.
use Rattle.std.specs.Prelude.{Bool, nat_eq, ◌≡◌, ◌↔◌, ◌≤◌, ℕ, List, [], ◌∷◌, ◌++◌, Contains, All, length}
use Rattle.std.specs.declared.cmp.Ordering.{Ordering}
use Rattle.std.specs.declared.cmp.Ordering.TheVariants.{Less, Greater}
use Rattle.std.specs.List.{AllWithin}
use Rattle.std.specs.Ordering.{nat_cmp}
use Rattle.std.specs.Cmp.Lexicographic.{slice_cmp, pointwise}
use Rattle.std.specs.List.Sorted.{IsStrictlySortedBy}
use Rattle.core_tuples.specs.Index.{IsNumber}

-- the order of tuples: number by number from the left
abbrev pub tuple_cmp : List ℕ → List ℕ → Ordering
tuple_cmp = slice_cmp nat_cmp

-- whether two tuples are the same
abbrev pub is_same : List ℕ → List ℕ → Bool
is_same = pointwise nat_eq

-- a set of tuples: their number of columns, and the tuples in order
pub record TupleList : Type 0 where
  pub arity : ℕ
  pub tuples : List (List ℕ)

-- one to nine columns; each tuple has so many numbers, each of a universe; and each tuple is below those after it
pub record IsTupleSet (set : TupleList) : Type 0 where
  pub least : 1 ≤ set.arity
  pub most : set.arity ≤ 9
  pub columns : All (λ t. length t ≡ set.arity) set.tuples
  pub numbers : All (λ t. All IsNumber t) set.tuples
  pub sorted : IsStrictlySortedBy tuple_cmp set.tuples

-- t is in the set
abbrev pub In : List ℕ → TupleList → Type 0
In t set = Contains set.tuples t

-- the set has this number of columns and just these tuples
pub record HasJust (set : TupleList) (arity : ℕ) (P : List ℕ → Type 0) : Type 0 where
  pub columns : set.arity ≡ arity
  pub just : (t : List ℕ) → In t set ↔ P t

-- t is a tuple of a and a tuple of b that meet in an atom, which is left out
abbrev pub IsJoined : TupleList → TupleList → List ℕ → Type 0
IsJoined a b t = (s u : List ℕ) × (x : ℕ) × In (s ++ x ∷ []) a × In (x ∷ u) b × (t ≡ s ++ u)

-- t is a tuple of a followed by a tuple of b
abbrev pub IsPaired : TupleList → TupleList → List ℕ → Type 0
IsPaired a b t = (s u : List ℕ) × In s a × In u b × (t ≡ s ++ u)

-- t is a pair of two numbers, and turned round it is in the set
abbrev pub IsTurned : TupleList → List ℕ → Type 0
IsTurned a t = (x y : ℕ) × In (x ∷ y ∷ []) a × (t ≡ y ∷ x ∷ [])

-- the tuples before place i are below t, and the others above it
pub record IsGap (ts : List (List ℕ)) (t : List ℕ) (i : ℕ) : Type 0 where
  pub bound : i ≤ length ts
  pub before : AllWithin (λ y. tuple_cmp y t ≡ Less) ts 0 i
  pub after : AllWithin (λ y. tuple_cmp y t ≡ Greater) ts i (length ts)
