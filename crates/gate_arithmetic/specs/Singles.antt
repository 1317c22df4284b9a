-- The number that stands for an integer in a universe.
use Rattle.std.specs.Prelude.{◌≡◌, ◌+◌, ◌-◌, ◌^◌, ◌<◌, ℕ, List, [], ◌∷◌, ℤ, pos, ◌+ℤ◌}
use Rattle.core_meaning.specs.Integers.{low_bits}
use Rattle.core_tuples.specs.declared.universe.Universe.{Universe}
use Rattle.gate_integers.specs.Numbers.{from_bits}
use Rattle.gate_arithmetic.specs.Members.{amount_from}

-- the numbers after the atoms stand for the integers from the least up
abbrev pub atom_for : Universe → ℤ → ℕ
atom_for u z = u.atoms + low_bits u.bits (z +ℤ pos (2 ^ (u.bits - 1)))

-- the integer is one of the first k, and the tuple has its number alone
abbrev pub IsEarly : Universe → ℕ → ℤ → List ℕ → Type 0
IsEarly u k z t = (j : ℕ) × (j < k) × (t ≡ (u.atoms + j) ∷ []) × (z ≡ from_bits u.bits (amount_from u j))
