-- What a number of the universe adds in an integer place.
use Rattle.std.specs.Prelude.{ℕ, ◌+◌, ◌^◌, ◌&&◌, nat_lt, not, Bool, ℤ, pos, if◌then◌else◌}
use Rattle.core_meaning.specs.World.{World, integer_of}

-- whether a number of the universe stands for an integer
abbrev pub is_integer : World → ℕ → Bool
is_integer w a = not (nat_lt a w.atoms) && nat_lt a (w.atoms + 2 ^ w.bits)

-- the integer for which it stands, or 0
abbrev pub amount : World → ℕ → ℤ
amount w a = if is_integer w a then integer_of w a else pos 0
