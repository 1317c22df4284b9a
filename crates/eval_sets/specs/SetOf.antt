-- What is said of a set whatever its columns: which tuples it has.
use Rattle.std.specs.Prelude.{◌⊎◌, ◌↔◌, ℕ, List, Contains}
use Rattle.core_tuples.specs.Sets.{TupleList, In}

-- the set has just the tuples of P
pub record IsSetOf (set : TupleList) (P : List ℕ → Type 0) : Type 0 where
  pub just : (t : List ℕ) → In t set ↔ P t

-- a set got just those tuples more that a tuple s gives
pub record Gains (old new : TupleList) (Gives : List ℕ → List ℕ → Type 0) (s : List ℕ) : Type 0 where
  pub just : (t : List ℕ) → In t new ↔ (In t old ⊎ Gives s t)

-- a set has just the tuples that the tuples of a list give
pub record Gathers (set : TupleList) (Gives : List ℕ → List ℕ → Type 0) (ts : List (List ℕ)) : Type 0 where
  pub just : (t : List ℕ) → In t set ↔ ((s : List ℕ) × Contains ts s × Gives s t)
