-- What formulas are read in: a universe of atoms and integers, and a lasso.
use Rattle.std.specs.Prelude.{◌≡◌, ◌⊎◌, ℕ, ◌+◌, ◌-◌, ◌^◌, ◌<◌, ◌≤◌, Bool, true, List, [], ◌∷◌, Contains, ℤ, pos, ◌+ℤ◌, ◌-ℤ◌, length, slice_get, Some}
use Rattle.core_meaning.specs.Integers.{low_bits}
use Rattle.core_meaning.specs.Sequence.{LassoValue, place_of}
use Rattle.core_tuples.specs.Sets.{TupleList}

-- the number of sig atoms, which are numbered first, the literals last among them; the bitwidth of
-- the integers, which are numbered after them from the least up; for each sig whether it is
-- top-level; and the lasso. The relation of the first field comes after those of the sigs
pub record World : Type 0 where
  pub atoms : ℕ
  pub bits : ℕ
  pub top : List Bool
  pub lasso : LassoValue

-- t is in the relation with this number at position i
abbrev pub InRelation : World → ℕ → ℕ → List ℕ → Type 0
InRelation w relation i t = (state : List TupleList) × (set : TupleList) × (slice_get w.lasso.states (place_of w.lasso i) ≡ Some state) × (slice_get state relation ≡ Some set) × Contains set.tuples t

-- the number in the universe that stands for an integer, and the integer for which one stands
abbrev pub atom_of : World → ℤ → ℕ
atom_of w z = w.atoms + low_bits w.bits (z +ℤ pos (2 ^ (w.bits - 1)))

abbrev pub integer_of : World → ℕ → ℤ
integer_of w a = pos (a - w.atoms) -ℤ pos (2 ^ (w.bits - 1))

-- a number of the universe that stands for an integer
abbrev pub IsInteger : World → ℕ → Type 0
IsInteger w a = (w.atoms ≤ a) × (a < w.atoms + 2 ^ w.bits)

abbrev pub IsTop : World → ℕ → Type 0
IsTop w s = slice_get w.top s ≡ Some true

-- a is an atom of a top-level sig at i, or an integer
abbrev pub InUniverse : World → ℕ → ℕ → Type 0
InUniverse w i a = ((s : ℕ) × IsTop w s × InRelation w s i (a ∷ [])) ⊎ IsInteger w a
