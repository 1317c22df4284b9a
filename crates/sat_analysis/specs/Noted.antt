-- Literals that a conflict analysis has noted, at most one of each variable.
use Rattle.std.specs.Prelude.{ℕ, ◌<◌, ◌≡◌, ℤ, Bool, true, false, List, ◌↔◌, length, slice_index_or}
use Rattle.sat_trail.specs.Literal.{index, IsLiteral}
use Rattle.sat_trail.specs.Assignment.{value_at}
use Rattle.sat_trail.specs.Reasons.{AreApart}

-- how many variables there are, and the literals in the order in which they were noted
pub record Notes : Type 0 where
  pub variables : ℕ
  pub literals : List ℤ

-- some literal of the list has this variable
abbrev pub HasVariable : List ℤ → ℕ → Type 0
HasVariable xs v = (p : ℕ) × (p < length xs) × (index (value_at xs p) ≡ v)

-- just the variables of the noted literals are marked
pub record IsNoted (marks : List Bool) (xs : List ℤ) : Type 0 where
  pub literal : (p : ℕ) → p < length xs → IsLiteral (length marks) (value_at xs p)
  pub apart : AreApart xs
  pub marked : (v : ℕ) → v < length marks → (slice_index_or marks v false ≡ true) ↔ HasVariable xs v
