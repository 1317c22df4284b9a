-- What a member of a set adds in an integer place.
use Rattle.std.specs.Prelude.{ℕ, ◌+◌, ◌-◌, ◌*◌, ◌%◌, ◌^◌, nat_lt, Bool, List, map, if◌then◌else◌, ℤ, pos, ◌-ℤ◌}
use Rattle.std.specs.List.{sum_by}
use Rattle.gate_trait.specs.declared.node.Node.{Node}
use Rattle.core_tuples.specs.declared.universe.Universe.{Universe}
use Rattle.gate_integers.specs.Numbers.{bit}
use Rattle.core_meaning.specs.Integers.{sum_of}
use Rattle.gate_matrix.specs.declared.entry.Entry.{Entry}
use Rattle.gate_matrix.specs.Joined.{first_of}

-- the low bits of the integer that has this place among them, counted from the least
abbrev pub amount_from : Universe → ℕ → ℕ
amount_from u place = (place + 2 ^ (u.bits - 1)) % 2 ^ u.bits

-- the low bits of the integer for which a number of the universe stands, or 0 for an atom: the numbers
-- after the atoms stand for the integers from the least up
abbrev pub amount_for : Universe → ℕ → ℕ
amount_for u number = if nat_lt number u.atoms then 0 else amount_from u (number - u.atoms)

-- what all the entries add
abbrev pub sum_of_members : Universe → (Node → Bool) → List Entry → ℕ
sum_of_members u value es = sum_by (λ e. bit (value e.node) * amount_for u (first_of e)) es

-- the integer for which a number of the universe stands, or 0 for an atom
abbrev pub integer_for : Universe → ℕ → ℤ
integer_for u number = if nat_lt number u.atoms then pos 0 else pos (number - u.atoms) -ℤ pos (2 ^ (u.bits - 1))

-- the sum of the integers whose nodes are true
abbrev pub integer_sum : Universe → (Node → Bool) → List Entry → ℤ
integer_sum u value es = sum_of (map (λ e. if value e.node then integer_for u (first_of e) else pos 0) es)
