-- What a visit finds at a watch: the clause is true, another literal can be watched,
-- or it is unit or false.
use Rattle.std.specs.Prelude.{ℕ, ◌/◌, ◌≡◌, ◌≢◌, ℤ, neg_ℤ, List, ◌⊎◌}
use Rattle.std.specs.List.{Contains}
use Rattle.sat_trail.specs.declared.watches.Found.{Found}
use Rattle.sat_trail.specs.declared.watches.Found.TheVariants.{True, Open, Forced, False}
use Rattle.sat_trail.specs.Assignment.{value_at}
use Rattle.sat_trail.specs.Watched.{InClause, IsTrueIn, IsFalseIn, watched, sibling}

-- what the clause of a node is: true, with another place to watch, with one literal left, or false
abbrev pub IsFound : List ℤ → List ℕ → List ℕ → List ℤ → ℕ → Found → Type 0
IsFound literals ends at trail k True = IsTrueIn literals ends trail (k / 2)
IsFound literals ends at trail k (Open p) =
    InClause ends (k / 2) p × (value_at literals p ≢ watched literals at (sibling k)) × (Contains trail (neg_ℤ (value_at literals p)) → ⊥)
IsFound literals ends at trail k (Forced l) =
    (l ≡ watched literals at (sibling k)) × (Contains trail l → ⊥) × (Contains trail (neg_ℤ l) → ⊥) × ((p : ℕ) → InClause ends (k / 2) p → (value_at literals p ≡ l) ⊎ Contains trail (neg_ℤ (value_at literals p)))
IsFound literals ends at trail k False = IsFalseIn literals ends trail (k / 2)
