-- The hints of a learnt clause: under its negation each reason is unit, and the last is false.
use Rattle.std.specs.Prelude.{ℕ, ◌+◌, ◌<◌, ◌≤◌, ◌≡◌, ◌⊎◌, ℤ, neg_ℤ, List, [], ◌∷◌, Option, Some, None, length, nat_le, if◌then◌else◌}
use Rattle.std.specs.List.{Contains}
use Rattle.sat_lrat.specs.Step.{walk, among}
use Rattle.sat_trail.specs.Assignment.{value_at}
use Rattle.sat_trail.specs.State.{Search, clause_at}
use Rattle.sat_trail.specs.Reasons.{reason_of}
use Rattle.sat_analysis.specs.Resolved.{Fails, IsCovered, IsExplained}

-- the reasons of the literals at the places from one on, each place once where the places don't fall
abbrev pub reasons_from : Search → ℕ → List ℕ → List ℕ
reasons_from s start [] = []
reasons_from s start (j ∷ js) = if nat_le start j then reason_of s.assignment j ∷ reasons_from s (j + 1) js else reasons_from s start js

-- the literals taken as false, the hints leave one literal of a clause in turn, and none of the last
abbrev pub Passes : Search → List ℤ → List ℕ → Type 0
Passes s literals hints =
    (clause_of : ℕ → Option (List ℤ)) → ((n : ℕ) → n < length s.ends → clause_of (n + 1) ≡ Some (clause_at s n)) → walk clause_of (among literals) hints ≡ None

-- a clause and the places of the literals that are resolved away, such that nothing else is noted
pub record IsAnalysed (s : Search) (clause noted literals : List ℤ) (places : List ℕ) : Type 0 where
  pub fails : (l : ℤ) → Contains literals l → Fails s l
  pub resolved : (j : ℕ) → Contains places j → IsExplained s noted j × (Contains literals (neg_ℤ (value_at s.assignment.trail j)) → ⊥)
  pub conflict : IsCovered noted clause
  pub false_clause : (l : ℤ) → Contains clause l → Fails s l
  pub all : (q : ℕ) → q < length noted → Fails s (value_at noted q) × (Contains literals (value_at noted q) ⊎ ((j : ℕ) × Contains places j × (value_at s.assignment.trail j ≡ neg_ℤ (value_at noted q))))

-- the places of the negations of some literals, from one on and below another, are added to a list
pub record IsPlaced (s : Search) (literals : List ℤ) (start end : ℕ) (old new : List ℕ) : Type 0 where
  pub kept : (j : ℕ) → Contains old j → Contains new j
  pub each : (q : ℕ) → start ≤ q → q < end → (j : ℕ) × Contains new j × (value_at s.assignment.trail j ≡ neg_ℤ (value_at literals q))
  pub only : (j : ℕ) → Contains new j → Contains old j ⊎ ((q : ℕ) × (start ≤ q) × (q < end) × (value_at s.assignment.trail j ≡ neg_ℤ (value_at literals q)) × (j < length s.assignment.trail))
