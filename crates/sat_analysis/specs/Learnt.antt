-- What a learnt clause is: false on the trail, shown by its hints, asserting, and new.
use Rattle.std.specs.Prelude.{ℕ, ◌<◌, ◌≤◌, ◌≡◌, ◌≢◌, ◌⊎◌, ℤ, List, [], length, take, slice_index}
use Rattle.std.specs.List.{Contains}
use Rattle.sat_trail.specs.Assignment.{value_at}
use Rattle.sat_trail.specs.Sound.{IsFree}
use Rattle.sat_trail.specs.State.{Search, clause_at, IsAttached}
use Rattle.sat_trail.specs.Reasons.{AreApart}
use Rattle.sat_analysis.specs.Resolved.{Fails, level, AreWhole}
use Rattle.sat_analysis.specs.Hints.{Passes}

-- the clause is empty at level 0, and has at most one literal of the last level: just one, where every level below it
-- was propagated to its end
pub record IsAsserting (s : Search) (literals : List ℤ) : Type 0 where
  pub empty : length s.limits ≡ 0 → literals ≡ []
  pub one : AreWhole s → 0 < length s.limits → (p : ℕ) × (p < length literals) × (level s (value_at literals p) ≡ length s.limits)
  pub only : (p q : ℕ) → p < length literals → q < length literals → level s (value_at literals p) ≡ length s.limits → level s (value_at literals q) ≡ length s.limits → p ≡ q

-- the level of a literal where it is below a bound, or 0
pub record IsLevelBelow (s : Search) (l : ℤ) (bound n : ℕ) : Type 0 where
  pub below : level s l < bound → n ≡ level s l
  pub above : bound ≤ level s l → n ≡ 0

-- the greatest level among the literals below the last level, or 0
pub record IsSecond (s : Search) (literals : List ℤ) (second : ℕ) : Type 0 where
  pub greatest : (p : ℕ) → p < length literals → level s (value_at literals p) < length s.limits → level s (value_at literals p) ≤ second
  pub met : (second ≡ 0) ⊎ ((p : ℕ) × (p < length literals) × (level s (value_at literals p) ≡ second) × (second < length s.limits))

-- no clause is empty
abbrev pub AreFilled : Search → Type 0
AreFilled s = (i : ℕ) → i < length s.ends → 0 < length (clause_at s i)

-- no attached clause has all of its literals among these
abbrev pub IsNew : Search → List ℤ → Type 0
IsNew s literals = (i : ℕ) → i < length s.ends → IsAttached s i → ((l : ℤ) → Contains (clause_at s i) l → Contains literals l) → ⊥

-- two different literals are free
abbrev pub HasTwoFree : List ℤ → List ℤ → Type 0
HasTwoFree trail literals =
    (p : ℕ) × (q : ℕ) × (p < length literals) × (q < length literals) × (value_at literals p ≢ value_at literals q) × IsFree trail (value_at literals p) × IsFree trail (value_at literals q)

-- The clause is false, follows by its hints, leaves one literal at the level to go back to, and has no variable twice.
-- Where every level below the last was propagated to its end, two different literals of it were free at the end of each
-- level below the one to go back to; and if no clause is empty, it contains no attached one.
pub record IsLearnt (s : Search) (literals : List ℤ) (hints : List ℕ) (second : ℕ) : Type 0 where
  pub fails : (l : ℤ) → Contains literals l → Fails s l
  pub passes : Passes s literals hints
  pub asserting : IsAsserting s literals
  pub back_to : IsSecond s literals second
  pub apart : AreApart literals
  pub fresh : AreWhole s → AreFilled s → IsNew s literals
  pub two_free : AreWhole s → (f : ℕ) → f < second → HasTwoFree (take (slice_index s.limits f) s.assignment.trail) literals
