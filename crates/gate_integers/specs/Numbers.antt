-- The integers that bits mean, in two's complement, and their arithmetic.
use Rattle.std.specs.Prelude.{ℕ, ◌+◌, ◌-◌, ◌*◌, ◌%◌, ◌^◌, nat_lt, Bool, List, [], ◌∷◌, length, map, if◌then◌else◌, ℤ, pos, negsuc, ◌-ℤ◌}
use Rattle.gate_trait.specs.declared.node.Node.{Node}

-- a bit as a number
abbrev pub bit : Bool → ℕ
bit b = if b then 1 else 0

-- the number that truth values mean without a sign, the least first
abbrev pub binary : List Bool → ℕ
binary [] = 0
binary (b ∷ bs) = bit b + 2 * binary bs

-- the number that bits mean without a sign, where the nodes have these values
abbrev pub number : (Node → Bool) → List Node → ℕ
number value bits = binary (map value bits)

-- the integer whose low bits are these, in two's complement
unfoldable pub from_bits : ℕ → ℕ → ℤ
from_bits width k = if nat_lt k (2 ^ (width - 1)) then pos k else pos k -ℤ pos (2 ^ width)

-- the low bits of an integer
unfoldable pub low_bits : ℕ → ℤ → ℕ
low_bits width (pos n) = n % 2 ^ width
low_bits width (negsuc n) = 2 ^ width - 1 - n % 2 ^ width

-- an integer wrapped to a width
abbrev pub wrap : ℕ → ℤ → ℤ
wrap width z = from_bits width (low_bits width z)

-- the integer that bits mean, where the nodes have these values
abbrev pub signed : (Node → Bool) → List Node → ℤ
signed value bits = from_bits (length bits) (number value bits)
