-- How many sigs and parameters of a text have a name, and which is the last of them.
use Rattle.std.specs.Prelude.{◌≡◌, ℕ, Bool, true, false, not, ◌&&◌, ◌||◌, List, length, slice_get, Option, Some, None}
use Rattle.std.specs.Str.{bytes_eq}
use Rattle.load_state.specs.declared.table.DeclaredSig.{DeclaredSig}
use Rattle.load_state.specs.declared.table.Known.{Known}

-- P holds of no number, or of the last one; and of no other where the count is one
pub record Tells (P : ℕ → Type 0) (count last : ℕ) : Type 0 where
  pub none : count ≡ 0 → (n : ℕ) → P n → ⊥
  pub here : (count ≡ 0 → ⊥) → P last
  pub one : count ≡ 1 → (n : ℕ) → P n → n ≡ last

-- the count after one more
abbrev pub IsMore : ℕ → ℕ → Type 0
IsMore old new = (new ≡ 0 → ⊥) × (new ≡ 1 → old ≡ 0)

-- the sig of this number has this name, and is private only where that is harmless
pub record HasName (sigs : List DeclaredSig) (number : ℕ) (name : List ℕ) (harmless : Bool) : Type 0 where
  pub sig : DeclaredSig
  pub numbered : slice_get sigs number ≡ Some sig
  pub named : sig.name ≡ name
  pub seen : sig.is_private ≡ true → harmless ≡ true

-- what is known of a name: its sigs, those of them that aren't private, and its parameters
pub record TellsName (parameters : List (List ℕ)) (sigs : List DeclaredSig) (name : List ℕ) (known : Known) : Type 0 where
  pub all : Tells (λ n. HasName sigs n name true) known.sigs known.sig
  pub public : Tells (λ n. HasName sigs n name false) known.public_sigs known.public_sig
  pub given : Tells (λ n. slice_get parameters n ≡ Some name) known.parameters known.parameter

abbrev pub nothing : Known
nothing = record { sigs = 0; sig = 0; public_sigs = 0; public_sig = 0; parameters = 0; parameter = 0 }

abbrev pub known_or : Option Known → Known
known_or None = nothing
known_or (Some known) = known

-- a look-up tells this of each name
unfoldable pub TellsAll : List (List ℕ) → List DeclaredSig → (List ℕ → Option Known) → Type 0
TellsAll parameters sigs find = (name : List ℕ) → TellsName parameters sigs name (known_or (find name))

-- a sig of this number was added to what is known of a name
pub record AddsSig (number : ℕ) (is_private : Bool) (old new : Known) : Type 0 where
  pub more : IsMore old.sigs new.sigs
  pub last : new.sig ≡ number
  pub hidden : is_private ≡ true → (new.public_sigs ≡ old.public_sigs) × (new.public_sig ≡ old.public_sig)
  pub seen : is_private ≡ false → IsMore old.public_sigs new.public_sigs × (new.public_sig ≡ number)
  pub parameters : (new.parameters ≡ old.parameters) × (new.parameter ≡ old.parameter)

-- so was a parameter
pub record AddsParameter (number : ℕ) (old new : Known) : Type 0 where
  pub more : IsMore old.parameters new.parameters
  pub last : new.parameter ≡ number
  pub all : (new.sigs ≡ old.sigs) × (new.sig ≡ old.sig)
  pub public : (new.public_sigs ≡ old.public_sigs) × (new.public_sig ≡ old.public_sig)

-- where a look-up told this of the sigs before, so it does after
unfoldable pub Stays : (List ℕ → Option Known) → List DeclaredSig → ℕ → (List ℕ → Option Known) → List DeclaredSig → ℕ → Type 0
Stays before old count after new counted = (parameters : List (List ℕ)) → TellsAll parameters old before → count ≡ length old → TellsAll parameters new after × (counted ≡ length new)

-- the same, as tests of numbers
abbrev pub is_named_sig : List ℕ → Bool → Option DeclaredSig → Bool
is_named_sig name harmless None = false
is_named_sig name harmless (Some sig) = bytes_eq sig.name name && (harmless || not sig.is_private)

abbrev pub is_name : List ℕ → Option (List ℕ) → Bool
is_name name None = false
is_name name (Some other) = bytes_eq other name

abbrev pub Tests : (ℕ → Bool) → ℕ → ℕ → Type 0
Tests test count last = (count ≡ 0 → (n : ℕ) → test n ≡ true → ⊥) × ((count ≡ 0 → ⊥) → test last ≡ true) × (count ≡ 1 → (n : ℕ) → test n ≡ true → n ≡ last)

abbrev pub TestsName : List (List ℕ) → List DeclaredSig → List ℕ → Known → Type 0
TestsName parameters sigs name known =
    Tests (λ n. is_named_sig name true (slice_get sigs n)) known.sigs known.sig
    × Tests (λ n. is_named_sig name false (slice_get sigs n)) known.public_sigs known.public_sig
    × Tests (λ n. is_name name (slice_get parameters n)) known.parameters known.parameter

abbrev pub TestsAll : List (List ℕ) → List DeclaredSig → (List ℕ → Option Known) → Type 0
TestsAll parameters sigs find = (name : List ℕ) → TestsName parameters sigs name (known_or (find name))
