-- Quotients and remainders of integers.
use Rattle.std.specs.Prelude.{◌≡◌, ◌<◌, ℕ, zero, suc, ◌+◌, ◌-◌, ◌*◌, ◌/◌, ◌^◌, nat_lt, if◌then◌else◌, ℤ, pos, negsuc, neg_ℤ, ◌-ℤ◌, ◌*ℤ◌}

-- the quotient by 0
unfoldable pub quotient_by_zero : ℤ → ℤ
quotient_by_zero (pos zero) = pos 0
quotient_by_zero (pos (suc m)) = negsuc 0
quotient_by_zero (negsuc m) = pos 1

-- The quotient, towards zero. By 0 it is 0 of 0, 1 of a negative dividend and -1 of a positive one.
unfoldable pub quotient : ℤ → ℤ → ℤ
quotient a (pos zero) = quotient_by_zero a
quotient (pos m) (pos (suc n)) = pos (m / suc n)
quotient (negsuc m) (pos (suc n)) = neg_ℤ (pos (suc m / suc n))
quotient (pos m) (negsuc n) = neg_ℤ (pos (m / suc n))
quotient (negsuc m) (negsuc n) = pos (suc m / suc n)

-- the dividend less the divisor times the quotient
abbrev pub remainder : ℤ → ℤ → ℤ
remainder a b = a -ℤ (b *ℤ quotient a b)

-- the magnitude of the integer whose low bits are these
abbrev pub magnitude : ℕ → ℕ → ℕ
magnitude width n = if nat_lt n (2 ^ (width - 1)) then n else 2 ^ width - n

-- a divided by b gives q and leaves r; by 0, q is one less than p
pub record IsDivided (a b p q r : ℕ) : Type 0 where
  pub sum : q * b + r ≡ a
  pub below : 0 < b → r < b
  pub by_zero : b ≡ 0 → q + 1 ≡ p
