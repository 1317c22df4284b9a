-- The low bits of members add up to those of their integers.
use Rattle.std.proofs.Common.{◌≡◌, ℕ, ◌+◌, ◌-◌, ◌*◌, ◌/◌, ◌%◌, ◌^◌, ◌≤◌, nat_lt, Bool, true, false, cond, List, [], ◌∷◌, refl, ap, ◌∙◌, arith, ℤ, pos, ◌+ℤ◌, ◌-ℤ◌}
use Rattle.std.proofs.Math.Nat.{div-add-mod, mul_comm, add-mul}
use Rattle.std.proofs.lemmas.List.Sums.{sum_by-cons}
use Rattle.std.proofs.lemmas.Int.{ints}
use borrow.Author.Differences.{same_in, same_out, sum_is_lem, neg_is}
use Rattle.gate_trait.specs.declared.node.Node.{Node}
use Rattle.core_tuples.specs.declared.universe.Universe.{Universe}
use Rattle.gate_integers.specs.Numbers.{bit, from_bits, wrap}
use Rattle.gate_integers.proofs.WrappedLemmas.{low_same}
use Rattle.core_meaning.specs.Integers.{wrap as wrap_to}
use Rattle.gate_matrix.specs.declared.entry.Entry.{Entry}
use Rattle.gate_matrix.specs.Joined.{first_of}
use Rattle.gate_arithmetic.specs.Members.{amount_for, sum_of_members, integer_for, integer_sum}
use Rattle.gate_arithmetic.proofs.IntLaws.{wrap_same}
use Rattle.gate_arithmetic.proofs.SingleLaw.{halves}

-- a natural number and an integer that differ by a multiple of p
abbrev AreAlike : ℕ → ℕ → ℤ → Type 0
AreAlike p n z = (j : ℕ) × (k : ℕ) × (pos n +ℤ pos (j * p) ≡ z +ℤ pos (k * p))

none_alike : (p : ℕ) → AreAlike p 0 (pos 0)
none_alike p = (0, 0, refl)

shifted_alike : (d h p : ℕ) → p ≡ 2 * h → AreAlike p ((d + h) % p) (pos d -ℤ pos h)
shifted_alike d h p twice =
    let q = (d + h) / p in
    let parts : p * q + (d + h) % p ≡ d + h = div-add-mod (d + h) p in
    let turned : p * q ≡ q * p = mul_comm p q in
    let whole : q * p + (d + h) % p ≡ d + h = omega (arith, parts, turned) in
    (q, 1, omega (arith, ints, whole, twice))

amount_alike : (p h : ℕ) (t : Bool) (d : ℕ) → p ≡ 2 * h → AreAlike p (cond t 0 ((d + h) % p)) (cond t (pos 0) (pos d -ℤ pos h))
amount_alike p h true d twice = none_alike p
amount_alike p h false d twice = shifted_alike d h p twice

member_alike : (p : ℕ) (b : Bool) (n : ℕ) (z : ℤ) → AreAlike p n z → AreAlike p (bit b * n) (cond b z (pos 0))
member_alike p true n z a = let one : 1 * n ≡ n = omega arith in (a.0, a.1, ap (λ (m : ℕ). pos m +ℤ pos (a.0 * p)) one ∙ a.2)
member_alike p false n z a = let none : 0 * n ≡ 0 = omega arith in (0, 0, ap (λ (m : ℕ). pos m +ℤ pos (0 * p)) none)

both_alike : (p m n : ℕ) (y z : ℤ) → AreAlike p m y → AreAlike p n z → AreAlike p (m + n) (y +ℤ z)
both_alike p m n y z a b =
    let left = add-mul a.0 b.0 p in
    let right = add-mul a.1 b.1 p in
    (a.0 + b.0, a.1 + b.1, omega (arith, same_in, same_out, sum_is_lem, neg_is, a.2, b.2, left, right))

sums_alike : (u : Universe) (v : Node → Bool) (es : List Entry) → 1 ≤ u.bits → AreAlike (2 ^ u.bits) (sum_of_members u v es) (integer_sum u v es)
sums_alike u v [] least = none_alike (2 ^ u.bits)
sums_alike u v (e ∷ es) least =
    let p = 2 ^ u.bits in
    let h = 2 ^ (u.bits - 1) in
    let number = first_of e in
    let here : AreAlike p (amount_for u number) (integer_for u number) = amount_alike p h (nat_lt number u.atoms) (number - u.atoms) (halves u.bits least) in
    let one : AreAlike p (bit (v e.node) * amount_for u number) (cond (v e.node) (integer_for u number) (pos 0)) = member_alike p (v e.node) (amount_for u number) (integer_for u number) here in
    let all = both_alike p (bit (v e.node) * amount_for u number) (sum_of_members u v es) (cond (v e.node) (integer_for u number) (pos 0)) (integer_sum u v es) one (sums_alike u v es least) in
    let cons = sum_by-cons (λ (d : Entry). bit (v d.node) * amount_for u (first_of d)) e es in
    (all.0, all.1, ap (λ (m : ℕ). pos m +ℤ pos (all.0 * p)) cons ∙ all.2)

pub members_sum : (u : Universe) (v : Node → Bool) (es : List Entry) → 1 ≤ u.bits → wrap u.bits (pos (sum_of_members u v es)) ≡ wrap_to u.bits (integer_sum u v es)
members_sum u v es least =
    let a = sums_alike u v es least in
    ap (λ (k : ℕ). from_bits u.bits k) (low_same u.bits (pos (sum_of_members u v es)) (integer_sum u v es) a.0 a.1 a.2)
    ∙ wrap_same u.bits (integer_sum u v es)
