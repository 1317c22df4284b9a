-- A trail as contracts see it: its clauses, its assignment, and where its decision levels begin.
use Rattle.std.specs.Prelude.{ℕ, ◌+◌, ◌-◌, ◌<◌, ◌≡◌, ℤ, Bool, true, false, List, [], ◌∷◌, ◌++◌, length, take, drop, slice_index, slice_index_or}
use Rattle.sat_trail.specs.Assignment.{Assignment}
use Rattle.sat_trail.specs.Watched.{start_of}

-- the clauses, one after another with the place after each, and whether each is attached, for just the attached ones are
-- propagated; the assignment; and how many literals were true when each level was opened
pub record Search : Type 0 where
  pub literals : List ℤ
  pub ends : List ℕ
  pub attached : List Bool
  pub variables : ℕ
  pub assignment : Assignment
  pub limits : List ℕ

-- the clause at a place is propagated
abbrev pub IsAttached : Search → ℕ → Type 0
IsAttached s i = slice_index_or s.attached i false ≡ true

-- the literals of the clause at a place
abbrev pub clause_at : Search → ℕ → List ℤ
clause_at s i = take (slice_index s.ends i - start_of s.ends i) (drop (start_of s.ends i) s.literals)

-- just these clauses are kept, in their order, and all are attached
pub record Keeps (s : Search) (clauses : List (List ℤ)) : Type 0 where
  pub count : length s.ends ≡ length clauses
  pub each : (i : ℕ) → i < length clauses → clause_at s i ≡ slice_index_or clauses i []
  pub attached : (i : ℕ) → i < length clauses → IsAttached s i

-- one clause more is kept, attached and behind the others
pub record Adds (s t : Search) (clause : List ℤ) : Type 0 where
  pub count : length t.ends ≡ length s.ends + 1
  pub others : (i : ℕ) → i < length s.ends → clause_at t i ≡ clause_at s i
  pub last : clause_at t (length s.ends) ≡ clause
  pub attached : t.attached ≡ s.attached ++ true ∷ []
