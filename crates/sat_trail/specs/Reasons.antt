-- Why the literals of a trail are true: the level of each, and the clause that forced it.
use Rattle.std.specs.Prelude.{ℕ, ◌-◌, ◌<◌, ◌≤◌, ◌≡◌, ◌≢◌, ℤ, neg_ℤ, List, [], ◌∷◌, ◌++◌, ◌⊎◌, ◌↔◌, length, take, slice_index, slice_set}
use Rattle.std.specs.List.{Contains}
use Rattle.sat_trail.specs.Literal.{index}
use Rattle.sat_trail.specs.Assignment.{Assignment, value_at}
use Rattle.sat_trail.specs.Watched.{InClause}
use Rattle.sat_trail.specs.Sound.{IsFree}
use Rattle.sat_trail.specs.State.{Search}

-- the level and the reason of the literal at a place of the trail
abbrev pub level_of : Assignment → ℕ → ℕ
level_of a j = slice_index a.levels (index (value_at a.trail j))

abbrev pub reason_of : Assignment → ℕ → ℕ
reason_of a j = slice_index a.reasons (index (value_at a.trail j))

-- clause n, counted from 1, has the literal at place j of the trail, and beside it only literals that are false before that place
pub record IsReason (literals : List ℤ) (ends : List ℕ) (trail : List ℤ) (j n : ℕ) : Type 0 where
  pub number : (0 < n) × (n ≤ length ends)
  pub has : (p : ℕ) × InClause ends (n - 1) p × (value_at literals p ≡ value_at trail j)
  pub others : (p : ℕ) → InClause ends (n - 1) p → (value_at literals p ≡ value_at trail j) ⊎ Contains (take j trail) (neg_ℤ (value_at literals p))

-- the literal at place j was free when it came, has this level, and was forced
pub record IsForced (literals : List ℤ) (ends : List ℕ) (top : ℕ) (a : Assignment) (j : ℕ) : Type 0 where
  pub free : IsFree (take j a.trail) (value_at a.trail j)
  pub level : level_of a j ≡ top
  pub reason : IsReason literals ends a.trail j (reason_of a j)

-- what was true keeps its place, level and reason, and all that came behind it was forced at this level
pub record ForcesMore (literals : List ℤ) (ends : List ℕ) (level : ℕ) (a b : Assignment) : Type 0 where
  pub longer : (ts : List ℤ) × (b.trail ≡ a.trail ++ ts)
  pub kept : (j : ℕ) → j < length a.trail → (level_of b j ≡ level_of a j) × (reason_of b j ≡ reason_of a j)
  pub forced : (j : ℕ) → length a.trail ≤ j → j < length b.trail → IsForced literals ends level b j

-- each level begins at a literal, which has no reason; every other literal was forced; and the level of a literal is how
-- many levels begin at its place or before
pub record AreReasoned (s : Search) : Type 0 where
  pub opened : (f : ℕ) → f < length s.limits → slice_index s.limits f < length s.assignment.trail
  pub rising : (f g : ℕ) → f < g → g < length s.limits → slice_index s.limits f < slice_index s.limits g
  pub top : (j : ℕ) → j < length s.assignment.trail → level_of s.assignment j ≤ length s.limits
  pub level : (j f : ℕ) → j < length s.assignment.trail → f < length s.limits → (f < level_of s.assignment j) ↔ (slice_index s.limits f ≤ j)
  pub chosen : (j : ℕ) → j < length s.assignment.trail → Contains s.limits j → reason_of s.assignment j ≡ 0
  pub forced : (j : ℕ) → j < length s.assignment.trail → (Contains s.limits j → ⊥) → IsReason s.literals s.ends s.assignment.trail j (reason_of s.assignment j)

-- a literal was put on the trail, with its level and its reason
pub record IsPut (a b : Assignment) (l : ℤ) (level n : ℕ) : Type 0 where
  pub trail : b.trail ≡ a.trail ++ l ∷ []
  pub apart : (j : ℕ) → j < length a.trail → index (value_at a.trail j) ≢ index l
  pub in_levels : index l < length a.levels
  pub in_reasons : index l < length a.reasons
  pub levels : b.levels ≡ slice_set a.levels (index l) level
  pub reasons : b.reasons ≡ slice_set a.reasons (index l) n

-- no two literals of a list have one variable
abbrev pub AreApart : List ℤ → Type 0
AreApart xs = (j k : ℕ) → j < length xs → k < length xs → index (value_at xs j) ≡ index (value_at xs k) → j ≡ k
