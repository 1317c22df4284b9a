-- Clauses that a text may have: their literals are of the variables from 1 to a number.
use Rattle.std.specs.Prelude.{◌<◌, ◌≤◌, ℕ, ℤ, nat_abs}

-- a literal of one of the variables from 1 to a number
abbrev pub IsOf : ℕ → ℤ → Type 0
IsOf most literal = (0 < nat_abs literal) × (nat_abs literal ≤ most)
