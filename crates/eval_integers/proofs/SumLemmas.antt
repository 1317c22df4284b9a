-- Lemmas on sums that are wrapped as they grow.
use Rattle.std.proofs.Common.{◌≡◌, ℕ, ◌+◌, ◌-◌, ◌*◌, ◌%◌, ◌^◌, ◌<◌, ◌≤◌, nat_lt, Bool, true, false, cond, refl, sym, ap, ◌∙◌, arith, ℤ, pos, negsuc, ◌+ℤ◌, ◌-ℤ◌, ◌/◌, List, [], ◌∷◌, ◌++◌}
use lib.Pow.{pow_pos}
use native.Mathlib.Nat.{mul-le-mul_left}
use borrow.Author.Differences.{up, down, same_in, same_out, sum_is_lem}
use Rattle.std.specs.Int.{int_rem_euclid}
use Rattle.std.specs.Int.RustNames.{unsigned_abs}
use Rattle.std.proofs.lemmas.Int.{ints, int_rem_euclid_is}
use Rattle.std.proofs.Math.IntN.{+ℤ_comm, +ℤ_assoc}
use Rattle.std.proofs.Math.Nat.{mod-lt, mod-add-div'}
use Rattle.core_meaning.specs.Integers.{from_bits, low_bits, wrap, sum_of}

low_rem : (w : ℕ) (z : ℤ) → int_rem_euclid z (pos (2 ^ w)) ≡ pos (low_bits w z)
low_rem w (pos n) = refl
low_rem w (negsuc n) = refl

-- z plus k times the modulus is the natural n
pub low_is : (w : ℕ) (z : ℤ) (k n : ℕ) → z +ℤ pos (k * 2 ^ w) ≡ pos n → low_bits w z ≡ n % 2 ^ w
low_is w z k n e = ap unsigned_abs (sym (low_rem w z) ∙ int_rem_euclid_is z (pos (2 ^ w)) (2 ^ w) k n (pow_pos w) refl e)

-- a and b differ by a multiple of the modulus
pub low_same : (w : ℕ) (a b : ℤ) (j k : ℕ) → a +ℤ pos (j * 2 ^ w) ≡ b +ℤ pos (k * 2 ^ w) → low_bits w a ≡ low_bits w b
low_same w a b j k e =
    let m = 2 ^ w in
    let some = pow_pos w in
    let t = down a + down b in
    let far : t * 1 ≤ t * m = mul-le-mul_left t some in
    let n = up a + (j + t) * m - down a in
    low_is w a (j + t) n (omega (arith, ints)) ∙ sym (low_is w b (k + t) n (omega (arith, ints)))

read_case : (t : Bool) (n p : ℕ) → (j : ℕ) × (cond t (pos n) (pos n -ℤ pos p) +ℤ pos (j * p) ≡ pos n)
read_case true n p = (0, omega (arith, ints))
read_case false n p = (1, omega (arith, ints))

-- the integer of the bits n, and how many times the modulus it lies below n
read : (w n : ℕ) → (j : ℕ) × (from_bits w n +ℤ pos (j * 2 ^ w) ≡ pos n)
read w n = read_case (nat_lt n (2 ^ (w - 1))) n (2 ^ w)

-- an integer and its low bits differ by a multiple of the modulus
low_of : (w : ℕ) (z : ℤ) → (j k : ℕ) × (z +ℤ pos (j * 2 ^ w) ≡ pos (low_bits w z) +ℤ pos (k * 2 ^ w))
low_of w (pos n) =
    let m = 2 ^ w in
    let whole : n % m + n / m * m ≡ n = mod-add-div' n m in
    (0, n / m, omega (arith, ints))
low_of w (negsuc n) =
    let m = 2 ^ w in
    let some : 0 < m = pow_pos w in
    let whole : n % m + n / m * m ≡ n = mod-add-div' n m in
    let below : n % m < m = mod-lt n some in
    (n / m + 1, 0, omega (arith, ints))

-- to wrap on the way changes nothing
pub wrap_left : (w : ℕ) (x y : ℤ) → wrap w (wrap w x +ℤ y) ≡ wrap w (x +ℤ y)
wrap_left w x y =
    let r = read w (low_bits w x) in
    let s = low_of w x in
    ap (from_bits w) (low_same w (from_bits w (low_bits w x) +ℤ y) (x +ℤ y) (r.0 + s.1) s.0 (omega (arith, same_in, same_out, sum_is_lem, r.1, s.2)))

pub wrap_both : (w : ℕ) (x y : ℤ) → wrap w (wrap w x +ℤ wrap w y) ≡ wrap w (x +ℤ y)
wrap_both w x y =
    wrap_left w x (wrap w y)
    ∙ ap (wrap w) (+ℤ_comm x (wrap w y))
    ∙ wrap_left w y x
    ∙ ap (wrap w) (+ℤ_comm y x)

pub sum_push : (zs : List ℤ) (z : ℤ) → sum_of (zs ++ z ∷ []) ≡ sum_of zs +ℤ z
sum_push [] z = +ℤ_comm z (pos 0)
sum_push (y ∷ zs) z = ap (λ s. y +ℤ s) (sum_push zs z) ∙ sym (+ℤ_assoc y (sum_of zs) z)
