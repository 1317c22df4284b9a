-- Integers of a bitwidth: wrapping, and the five operators.
use Rattle.std.specs.Prelude.{ℕ, zero, suc, ◌+◌, ◌-◌, ◌/◌, ◌%◌, ◌^◌, nat_lt, if◌then◌else◌, List, [], ◌∷◌, ℤ, pos, negsuc, ◌+ℤ◌, ◌-ℤ◌, ◌*ℤ◌}
use Rattle.core_tree.specs.declared.operators.IntOp.{IntOp}
use Rattle.core_tree.specs.declared.operators.IntOp.TheVariants.{Add, Sub, Mul, Div, Rem}

-- the integer whose low bits are these, in two's complement
abbrev pub from_bits : ℕ → ℕ → ℤ
from_bits bits k = if nat_lt k (2 ^ (bits - 1)) then pos k else pos k -ℤ pos (2 ^ bits)

-- the low bits of an integer
abbrev pub low_bits : ℕ → ℤ → ℕ
low_bits bits (pos n) = n % 2 ^ bits
low_bits bits (negsuc n) = 2 ^ bits - 1 - n % 2 ^ bits

-- an integer wrapped to the bitwidth
abbrev pub wrap : ℕ → ℤ → ℤ
wrap bits z = from_bits bits (low_bits bits z)

-- the sum of a list
abbrev pub sum_of : List ℤ → ℤ
sum_of [] = pos 0
sum_of (z ∷ zs) = z +ℤ sum_of zs

-- the quotient, towards zero. By 0 it is 0 of 0, 1 of a negative dividend and -1 of a positive one
abbrev pub quotient : ℤ → ℤ → ℤ
quotient (pos zero) (pos zero) = pos 0
quotient (pos (suc m)) (pos zero) = negsuc 0
quotient (negsuc m) (pos zero) = pos 1
quotient (pos m) (pos (suc n)) = pos (m / (n + 1))
quotient (pos m) (negsuc n) = pos 0 -ℤ pos (m / (n + 1))
quotient (negsuc m) (pos (suc n)) = pos 0 -ℤ pos ((m + 1) / (n + 1))
quotient (negsuc m) (negsuc n) = pos ((m + 1) / (n + 1))

-- the dividend less the divisor times the quotient
abbrev pub remainder : ℤ → ℤ → ℤ
remainder a b = a -ℤ (b *ℤ quotient a b)

-- what an operator gives before it wraps
abbrev pub result_of : IntOp → ℤ → ℤ → ℤ
result_of Add a b = a +ℤ b
result_of Sub a b = a -ℤ b
result_of Mul a b = a *ℤ b
result_of Div a b = quotient a b
result_of Rem a b = remainder a b
