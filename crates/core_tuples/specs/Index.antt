-- The index of a tuple: its numbers are the digits, to the base 16,384.
use Rattle.std.specs.Prelude.{◌≡◌, ℕ, ◌+◌, ◌*◌, ◌^◌, ◌<◌, ◌≤◌, List, [], ◌∷◌, All, length}

-- a number of a universe is below 16,384
abbrev pub IsNumber : ℕ → Type 0
IsNumber x = x < 16384

-- a tuple that has an index: at most nine numbers, each of a universe
pub record FitsIndex (t : List ℕ) : Type 0 where
  pub columns : length t ≤ 9
  pub numbers : All IsNumber t

-- the index of a tuple
abbrev pub index_of : List ℕ → ℕ
index_of [] = 0
index_of (x ∷ t) = x * 16384 ^ length t + index_of t

-- a tuple that has this index
pub record IsIndexed (index : ℕ) (t : List ℕ) : Type 0 where
  pub fits : FitsIndex t
  pub is : index ≡ index_of t
