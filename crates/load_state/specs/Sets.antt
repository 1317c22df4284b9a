-- Sets of instances, as numbers with a bit for each of them, and how they grow.
use Rattle.std.specs.Prelude.{◌≡◌, ◌↔◌, ◌⊎◌, ℕ, ◌-◌, ◌<◌, ◌≤◌, Bool, false, List, Option, Some, None}
use Rattle.std.specs.Int.{bit_at}
use Rattle.load_state.specs.declared.reach.InstanceSet.{InstanceSet}
use Rattle.load_state.specs.declared.reach.Reach.{Reach}

-- there is room for an instance in a set
abbrev pub HasRoom : ℕ → Type 0
HasRoom n = (0 < n) × (n ≤ 64)

-- an instance is in a set
unfoldable pub IsIn : InstanceSet → ℕ → Type 0
IsIn set n = HasRoom n × (bit_at set.bits (n - 1) ≡ 1)

-- an instance is in a set, and has this number
abbrev pub IsInAt : InstanceSet → ℕ → ℕ → Type 0
IsInAt set place n = IsIn set n × (n ≡ place)

-- an instance is this one, for which there is room
abbrev pub IsJust : ℕ → ℕ → Type 0
IsJust instance n = (n ≡ instance) × HasRoom n

-- the instances of which `added` holds were added, by an open that is private or not
pub record IsWider (old new : Reach) (is_private : Bool) (added : ℕ → Type 0) : Type 0 where
  pub all : (n : ℕ) → IsIn new.all n ↔ (IsIn old.all n ⊎ added n)
  pub public : (n : ℕ) → IsIn new.public n ↔ (IsIn old.public n ⊎ ((is_private ≡ false) × added n))

-- where an alias leads that may be absent
abbrev pub reach_or : Option Reach → Reach
reach_or None = record { all = record { bits = 0 }; public = record { bits = 0 } }
reach_or (Some reach) = reach

-- an open with this alias was noted, which leads to an instance
pub record IsAliased (alias : List ℕ) (instance : ℕ) (is_private : Bool) (before after : List ℕ → Option Reach) : Type 0 where
  pub here : IsWider (reach_or (before alias)) (reach_or (after alias)) is_private (IsJust instance)
  pub others : (other : List ℕ) → (other ≡ alias → ⊥) → after other ≡ before other

-- the same, and beyond that instance these are reached
pub record IsNoted (alias : List ℕ) (instance : ℕ) (beyond : InstanceSet) (is_private : Bool) (old new : Reach) (before after : List ℕ → Option Reach) : Type 0 where
  pub reach : IsWider old new is_private (λ n. IsIn beyond n ⊎ IsJust instance n)
  pub aliased : IsAliased alias instance is_private before after
