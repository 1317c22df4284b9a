-- What stands while a false clause is resolved with reasons, back to the first UIP and further.
use Rattle.std.specs.Prelude.{ℕ, ◌-◌, ◌<◌, ◌≤◌, ◌≡◌, ◌⊎◌, ℤ, neg_ℤ, List, [], ◌∷◌, ◌++◌, Option, Some, None, IsSome, IfSome, length, take, slice_index}
use Rattle.std.specs.List.{All, Contains}
use Rattle.sat_trail.specs.Literal.{index, IsLiteral}
use Rattle.sat_trail.specs.Assignment.{value_at}
use Rattle.sat_trail.specs.Watched.{IsTrueIn}
use Rattle.sat_trail.specs.Sound.{IsOpen}
use Rattle.sat_trail.specs.State.{Search, clause_at, IsAttached}
use Rattle.sat_trail.specs.Reasons.{reason_of, AreReasoned, AreApart}
use Rattle.sat_analysis.specs.Noted.{HasVariable}

-- what a trail keeps: its levels and reasons are in order, and it has at most one literal of each variable
pub record Stands (s : Search) : Type 0 where
  pub reasoned : AreReasoned s
  pub apart : AreApart s.assignment.trail
  pub literal : All (IsLiteral s.variables) s.assignment.trail

-- a literal is false on the trail
abbrev pub Fails : Search → ℤ → Type 0
Fails s l = Contains s.assignment.trail (neg_ℤ l)

-- the level of a literal that is true or false
abbrev pub level : Search → ℤ → ℕ
level s l = slice_index s.assignment.levels (index l)

-- where the last level begins on the trail
abbrev pub base : Search → ℕ
base s = slice_index s.limits (length s.limits - 1)

-- every level below the last was propagated to its end: where the next one began, each attached clause was true or had two
-- different free literals
abbrev pub AreWhole : Search → Type 0
AreWhole s =
    (f i : ℕ) → f < length s.limits → i < length s.ends → IsAttached s i → IsTrueIn s.literals s.ends (take (slice_index s.limits f) s.assignment.trail) i ⊎ IsOpen s.literals s.ends (take (slice_index s.limits f) s.assignment.trail) i

-- each literal of a clause has the variable of a noted literal
abbrev pub IsCovered : List ℤ → List ℤ → Type 0
IsCovered noted clause = (k : ℕ) → k < length clause → HasVariable noted (index (value_at clause k))

-- the clause that forced the literal at a place of the trail
abbrev pub reason_at : Search → ℕ → List ℤ
reason_at s j = clause_at s (reason_of s.assignment j - 1)

-- literals of a clause were noted behind others, and then all of its variables are noted
pub record IsTaken (clause : List ℤ) (old new : List ℤ) : Type 0 where
  pub longer : (ts : List ℤ) × (new ≡ old ++ ts)
  pub from : (q : ℕ) → length old ≤ q → q < length new → Contains clause (value_at new q) × (HasVariable old (index (value_at new q)) → ⊥)
  pub covered : IsCovered new clause

-- a literal was noted behind others, unless its variable was among theirs
pub record IsOneNoted (l : ℤ) (old new : List ℤ) : Type 0 where
  pub longer : (ts : List ℤ) × (new ≡ old ++ ts)
  pub from : (q : ℕ) → length old ≤ q → q < length new → (value_at new q ≡ l) × (HasVariable old (index l) → ⊥)
  pub has : HasVariable new (index l)

-- the literal at a place was forced, and all variables of its reason are noted
pub record IsExplained (s : Search) (noted : List ℤ) (j : ℕ) : Type 0 where
  pub within : j < length s.assignment.trail
  pub forced : Contains s.limits j → ⊥
  pub covered : IsCovered noted (reason_at s j)

abbrev pub AllFail : Search → List ℤ → Type 0
AllFail s xs = (q : ℕ) → q < length xs → Fails s (value_at xs q)

-- the literal at a place of a list has the variable of a noted one
abbrev pub IsMetIn : List ℤ → List ℤ → ℕ → Type 0
IsMetIn literals noted j = HasVariable noted (index (value_at literals j))

-- the true literal at a place has the variable of a noted one
abbrev pub IsMet : Search → List ℤ → ℕ → Type 0
IsMet s noted j = IsMetIn s.assignment.trail noted j

-- a false clause is resolved with the reasons of the noted literals of the last level down to a place of the trail
pub record IsBack (s : Search) (clause noted : List ℤ) (steps : List ℕ) (place : ℕ) : Type 0 where
  pub fails : AllFail s noted
  pub conflict : IsCovered noted clause
  pub resolved : (j : ℕ) → Contains steps j → IsExplained s noted j × (base s ≤ j) × (place ≤ j)
  pub done : (j : ℕ) → base s ≤ j → place ≤ j → j < length s.assignment.trail → IsMet s noted j → Contains steps j
  pub left : AreWhole s → 0 < length s.limits → (j : ℕ) × (base s ≤ j) × (j < place) × IsMet s noted j

-- a noted literal of the last level that isn't resolved
pub record IsPoint (s : Search) (noted : List ℤ) (steps : List ℕ) (place : ℕ) : Type 0 where
  pub within : (base s ≤ place) × (place < length s.assignment.trail)
  pub opened : 0 < length s.limits
  pub met : IsMet s noted place
  pub unresolved : Contains steps place → ⊥

-- a false clause is resolved with the reasons of all noted literals of the last level but the one at the point, if any
pub record IsFound (s : Search) (clause noted : List ℤ) (steps : List ℕ) (point : Option ℕ) : Type 0 where
  pub fails : AllFail s noted
  pub conflict : IsCovered noted clause
  pub resolved : (j : ℕ) → Contains steps j → IsExplained s noted j × (base s ≤ j)
  pub done : (j : ℕ) → base s ≤ j → j < length s.assignment.trail → IsMet s noted j → (point ≡ Some j) ⊎ Contains steps j
  pub point_is : IfSome point (IsPoint s noted steps)
  pub some : AreWhole s → 0 < length s.limits → IsSome point

-- a false literal below the last level was forced, and all variables of its reason are noted
pub record IsGone (s : Search) (noted : List ℤ) (l : ℤ) : Type 0 where
  pub place : ℕ
  pub low : place < base s
  pub at : value_at s.assignment.trail place ≡ neg_ℤ l
  pub explained : IsExplained s noted place

-- the place of the negation of a literal, below the last level
abbrev pub IsLow : Search → ℤ → Type 0
IsLow s l = (j : ℕ) × (j < base s) × (value_at s.assignment.trail j ≡ neg_ℤ l)

-- literals are noted behind others until a literal and all that was noted behind are resolved away
pub record IsSpread (s : Search) (old new : List ℤ) (l : ℤ) : Type 0 where
  pub longer : (ts : List ℤ) × (new ≡ old ++ ts)
  pub fails : AllFail s new
  pub gone : IsGone s new l
  pub rest : (q : ℕ) → length old ≤ q → q < length new → IsGone s new (value_at new q)

-- the same, up to a place of the list
pub record IsSpreadTo (s : Search) (old new : List ℤ) (l : ℤ) (place : ℕ) : Type 0 where
  pub longer : (ts : List ℤ) × (new ≡ old ++ ts)
  pub fails : AllFail s new
  pub gone : IsGone s new l
  pub low : (q : ℕ) → length old ≤ q → q < length new → IsLow s (value_at new q)
  pub rest : (q : ℕ) → length old ≤ q → q < place → q < length new → IsGone s new (value_at new q)

-- the first noted literals below the last level, up to a place of the list, are parted into learnt and dropped ones; the
-- dropped ones, and all noted behind the first so many, are resolved away
pub record IsParted (s : Search) (first p : ℕ) (noted learnt dropped : List ℤ) : Type 0 where
  pub fails : AllFail s noted
  pub kept : (l : ℤ) → Contains learnt l → (q : ℕ) × (q < p) × (value_at noted q ≡ l) × (level s l < length s.limits)
  pub lost : (l : ℤ) → Contains dropped l → ((q : ℕ) × (q < p) × (value_at noted q ≡ l)) × IsGone s noted l
  pub behind : (q : ℕ) → first ≤ q → q < length noted → IsGone s noted (value_at noted q)
  pub each : (q : ℕ) → q < p → level s (value_at noted q) < length s.limits → Contains learnt (value_at noted q) ⊎ Contains dropped (value_at noted q)
  pub apart : (l : ℤ) → Contains learnt l → Contains dropped l → ⊥
  pub different : AreApart learnt

-- a clause with the negation of the point's literal behind, if there is a point
abbrev pub IsClosed : Search → Option ℕ → List ℤ → List ℤ → Type 0
IsClosed s None learnt literals = literals ≡ learnt
IsClosed s (Some j) learnt literals = literals ≡ learnt ++ neg_ℤ (value_at s.assignment.trail j) ∷ []
