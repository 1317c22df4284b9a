-- When all literals of one clause are among those of another, and what shows that some aren't.
use Rattle.std.specs.Prelude.{ℕ, ◌+◌, ◌*◌, ◌%◌, ◌^◌, ◌<◌, ◌≡◌, ℤ, pos, negsuc, List, length, slice_index, All}
use Rattle.std.specs.List.{Contains, fold}
use Rattle.std.specs.Int.Bits.{bit_or}
use Rattle.sat_trail.specs.Assignment.{value_at}

-- each literal of a clause is among some
abbrev pub IsPart : List ℤ → List ℤ → Type 0
IsPart clause literals = (l : ℤ) → Contains clause l → Contains literals l

-- the place of a literal in a list that begins with one for 0 and goes on with two for each variable
abbrev pub slot_of : ℤ → ℕ
slot_of (pos n) = 2 * n
slot_of (negsuc n) = 2 * n + 1

-- a literal has a place in a list of so many entries
abbrev pub HasSlot : ℕ → ℤ → Type 0
HasSlot n l = slot_of l < n

-- the bit of a literal in signatures
abbrev pub bit_of : ℤ → ℕ
bit_of l = 2 ^ (slot_of l % 64)

-- bits with that of one literal more
abbrev pub with_bit : ℕ → ℤ → ℕ
with_bit bits l = bit_or bits (bit_of l)

-- the bits of all literals of a clause together
abbrev pub signature_of : List ℤ → ℕ
signature_of literals = fold with_bit 0 literals

-- the place that is kept for a literal is one where it stands
abbrev pub IsPlaced : List ℕ → List ℤ → ℤ → Type 0
IsPlaced places literals l = (slice_index places (slot_of l) < length literals) × (value_at literals (slice_index places (slot_of l)) ≡ l)

-- each literal of a list stands at the place that is kept for it
abbrev pub ArePlaced : List ℕ → List ℤ → Type 0
ArePlaced places literals = All (IsPlaced places literals) literals
