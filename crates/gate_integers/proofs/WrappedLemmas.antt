-- Lemmas on integers that are wrapped to a width, and on the numbers of their bits.
use Rattle.std.proofs.Common.{◌≡◌, ℕ, ◌+◌, ◌-◌, ◌*◌, ◌%◌, ◌^◌, ◌≤◌, nat_lt, Bool, true, false, cond, refl, sym, ap, ◌∙◌, arith, ℤ, pos, negsuc, ◌+ℤ◌, ◌-ℤ◌, ◌*ℤ◌}
use lib.IntN.{*ℤ_comm}
use lib.Pow.{pow_pos}
use native.Mathlib.Nat.{mul-le-mul_left}
use borrow.Author.Differences.{up, down, same_in, same_out, sum_is_lem, neg_is, product_is}
use Rattle.std.specs.Int.{int_rem_euclid}
use Rattle.std.specs.Int.RustNames.{unsigned_abs}
use Rattle.std.proofs.lemmas.Int.{ints, int_rem_euclid_is}
use Rattle.gate_integers.specs.Numbers.{from_bits, low_bits, wrap}

-- the low bits are those of the remainder that isn't negative
low_rem : (w : ℕ) (z : ℤ) → int_rem_euclid z (pos (2 ^ w)) ≡ pos (low_bits w z)
unfolding low_bits
low_rem w (pos n) = refl
low_rem w (negsuc n) = refl

-- z plus k times the modulus is the natural n
pub low_is : (w : ℕ) (z : ℤ) (k n : ℕ) → z +ℤ pos (k * 2 ^ w) ≡ pos n → low_bits w z ≡ n % 2 ^ w
low_is w z k n e = ap unsigned_abs (sym (low_rem w z) ∙ int_rem_euclid_is z (pos (2 ^ w)) (2 ^ w) k n (pow_pos w) refl e)

-- a and b differ by a multiple of the modulus
pub low_same : (w : ℕ) (a b : ℤ) (j k : ℕ) → a +ℤ pos (j * 2 ^ w) ≡ b +ℤ pos (k * 2 ^ w) → low_bits w a ≡ low_bits w b
low_same w a b j k e =
    let m = 2 ^ w in
    let some = pow_pos w in
    let t = down a + down b in
    let far : t * 1 ≤ t * m = mul-le-mul_left t some in
    let n = up a + (j + t) * m - down a in
    low_is w a (j + t) n (omega (arith, ints)) ∙ sym (low_is w b (k + t) n (omega (arith, ints)))

times : (w : ℕ) (a b c : ℤ) (j k : ℕ) → a +ℤ pos (j * 2 ^ w) ≡ b +ℤ pos (k * 2 ^ w) → low_bits w (a *ℤ c) ≡ low_bits w (b *ℤ c)
times w a b c j k e =
    let sum : up a + j * 2 ^ w + down b ≡ up b + k * 2 ^ w + down a = omega (arith, same_out, sum_is_lem) in
    let above = ap (λ x. x * up c) sum in
    let below = ap (λ x. x * down c) sum in
    low_same w (a *ℤ c) (b *ℤ c) (j * up c + k * down c) (k * up c + j * down c) (omega (arith, same_in, sum_is_lem, product_is))

read_case : (t : Bool) (n p : ℕ) → (j : ℕ) × (cond t (pos n) (pos n -ℤ pos p) +ℤ pos (j * p) ≡ pos n)
read_case true n p = (0, omega (arith, ints))
read_case false n p = (1, omega (arith, ints))

-- the integer of the bits n, and how many times the modulus it lies below n
read : (w n : ℕ) → (j : ℕ) × (from_bits w n +ℤ pos (j * 2 ^ w) ≡ pos n)
unfolding from_bits
read w n = read_case (nat_lt n (2 ^ (w - 1))) n (2 ^ w)

pub low_pos : (w n : ℕ) → low_bits w (pos n) ≡ n % 2 ^ w
unfolding low_bits
low_pos w n = refl

pub wrap_add : (w m n : ℕ) → from_bits w ((m + n) % 2 ^ w) ≡ wrap w (from_bits w m +ℤ from_bits w n)
wrap_add w m n =
    let a = read w m in
    let b = read w n in
    ap (from_bits w) (sym (low_pos w (m + n)) ∙ low_same w (pos (m + n)) (from_bits w m +ℤ from_bits w n) 0 (a.0 + b.0) (omega (arith, same_in, same_out, sum_is_lem, a.1, b.1)))

pub wrap_sub : (w m n : ℕ) → n ≤ 2 ^ w → from_bits w ((m + (2 ^ w - n)) % 2 ^ w) ≡ wrap w (from_bits w m -ℤ from_bits w n)
wrap_sub w m n small =
    let a = read w m in
    let b = read w n in
    ap (from_bits w) (sym (low_pos w (m + (2 ^ w - n))) ∙ low_same w (pos (m + (2 ^ w - n))) (from_bits w m -ℤ from_bits w n) b.0 (a.0 + 1) (omega (arith, same_in, same_out, sum_is_lem, neg_is, a.1, b.1)))

pub wrap_neg : (w n : ℕ) → n ≤ 2 ^ w → from_bits w ((2 ^ w - n) % 2 ^ w) ≡ wrap w (pos 0 -ℤ from_bits w n)
wrap_neg w n small =
    let b = read w n in
    ap (from_bits w) (sym (low_pos w (2 ^ w - n)) ∙ low_same w (pos (2 ^ w - n)) (pos 0 -ℤ from_bits w n) b.0 1 (omega (arith, same_in, same_out, sum_is_lem, neg_is, b.1)))

pub wrap_mul : (w m n : ℕ) → from_bits w ((m * n) % 2 ^ w) ≡ wrap w (from_bits w m *ℤ from_bits w n)
wrap_mul w m n =
    let a = read w m in
    let b = read w n in
    ap (from_bits w) (sym (low_pos w (m * n)) ∙ sym (
    times w (from_bits w m) (pos m) (from_bits w n) a.0 0 (a.1 ∙ omega (arith, ints))
    ∙ ap (low_bits w) (*ℤ_comm (pos m) (from_bits w n))
    ∙ times w (from_bits w n) (pos n) (pos m) b.0 0 (b.1 ∙ omega (arith, ints))
    ∙ ap (low_bits w) (*ℤ_comm (pos n) (pos m))))

-- a count, wrapped
pub wrap_count : (w n : ℕ) → from_bits w (n % 2 ^ w) ≡ wrap w (pos n)
wrap_count w n = ap (from_bits w) (sym (low_pos w n))
