-- What stands behind the answers of loading, by the libraries' counts of faults before and after.
use Rattle.std.specs.Prelude.{◌≡◌, ℕ, IsTrue, List, [], Result, Ok, Err}
use Rattle.base_types.specs.Causes.{NoneFell, SomeRose}
use Rattle.base_types.specs.declared.place.Position.{Position}
use Rattle.base_types.specs.declared.place.Rule.{Rule}
use Rattle.load_state.specs.Names.{folder_of, file_name}
use Rattle.load_state.specs.Refusals.{is_of_loading, refusal_at}
use Rattle.load_state.specs.declared.fault.LoadFault.{LoadFault}
use Rattle.load_state.specs.declared.fault.LoadFault.TheVariants.{Refused, Read, Memory}

-- a name that is asked for while a root is loaded: its own, or that of some path, in the root's folder or in none
pub data IsTried (root name : List ℕ) : Type 0 where
  own : name ≡ root → IsTried root name
  near : (path : List ℕ) → name ≡ file_name (folder_of root) path → IsTried root name
  far : (path : List ℕ) → name ≡ file_name [] path → IsTried root name

-- The refusal is by a rule of loading. A text that could not be read was asked for, and some library's count rose.
-- No count has fallen, and where one has risen the fault is that, or want of memory.
unfoldable pub FaultCause : List ℕ → List ℕ → List ℕ → LoadFault → Type 0
FaultCause root before now (Refused refusal name) = (now ≡ before) × IsTrue (is_of_loading refusal.rule)
FaultCause root before now (Read name) = IsTried root name × NoneFell before now × SomeRose before now
FaultCause root before now Memory = NoneFell before now

-- with an answer that is no fault the counts are as before
abbrev pub Causes : {T : Type 0} → List ℕ → List ℕ → List ℕ → Result T LoadFault → Type 0
Causes root before now (Ok value) = now ≡ before
Causes root before now (Err fault) = FaultCause root before now fault

-- the fault of a step that asks no library: a refusal by a rule of loading, or want of memory
unfoldable pub IsQuietFault : LoadFault → Type 0
IsQuietFault (Refused refusal name) = IsTrue (is_of_loading refusal.rule)
IsQuietFault (Read name) = ⊥
IsQuietFault Memory = Unit {0}

-- the refusal by this rule at this place of this text, or want of memory
unfoldable pub IsRefusal : Rule → Position → List ℕ → LoadFault → Type 0
IsRefusal rule place text (Refused refusal name) = (refusal ≡ refusal_at rule place) × (name ≡ text)
IsRefusal rule place text (Read name) = ⊥
IsRefusal rule place text Memory = Unit {0}

-- this name could not be read, or want of memory
unfoldable pub IsUnread : List ℕ → LoadFault → Type 0
IsUnread asked (Refused refusal name) = ⊥
IsUnread asked (Read name) = name ≡ asked
IsUnread asked Memory = Unit {0}
