-- Integers as a sign and a magnitude, and how they are divided.
use Rattle.std.proofs.Common.{◌≡◌, ℕ, zero, suc, ◌+◌, ◌-◌, ◌*◌, ◌/◌, ◌%◌, ◌^◌, ◌<◌, ◌≤◌, nat_lt, Bool, true, false, not, cond, refl, sym, ap, ◌∙◌, arith, ℤ, pos, neg_ℤ, ◌-ℤ◌, ◌*ℤ◌}
use lib.IntN.{pos-*ℤ-pos, pos-*ℤ-negsuc, negsuc-*ℤ-pos, negsuc-*ℤ-negsuc, zero-*ℤ}
use lib.Pow.{pow_pos}
use Rattle.std.proofs.lemmas.Int.{ints}
use Rattle.std.proofs.lemmas.Nat.{div-mul-add}
use Rattle.std.proofs.lemmas.Bool.Decides.{nat_tests}
use Rattle.std.proofs.Math.Nat.{zero-div, zero-mod, mod-eq_of_lt, div-le_self, mul-zero, zero-mul}
use Rattle.gate_trait.specs.Built.{xor}
use Rattle.gate_integers.specs.Numbers.{from_bits, low_bits, wrap}
use Rattle.gate_integers.specs.Quotients.{quotient, quotient_by_zero, remainder, magnitude, IsDivided}
use Rattle.gate_integers.proofs.WrappedLemmas.{low_is, low_pos}

-- the integer of a sign and a magnitude
abbrev pub signed_of : Bool → ℕ → ℤ
signed_of true m = neg_ℤ (pos m)
signed_of false m = pos m

-- whether the integer with these low bits is negative
abbrev pub is_negative : ℕ → ℕ → Bool
is_negative w n = not (nat_lt n (2 ^ (w - 1)))

from_case : (t : Bool) (n p : ℕ) → n < p → cond t (pos n) (pos n -ℤ pos p) ≡ signed_of (not t) (cond t n (p - n))
from_case true n p small = refl
from_case false n p small = omega (arith, ints)

pub from_signed : (w n : ℕ) → n < 2 ^ w → from_bits w n ≡ signed_of (is_negative w n) (magnitude w n)
unfolding from_bits
from_signed w n small = from_case (nat_lt n (2 ^ (w - 1))) n (2 ^ w) small

-- the low bits of a sign and a magnitude
pub low_signed : (w : ℕ) (s : Bool) (m : ℕ) → m < 2 ^ w → low_bits w (signed_of s m) ≡ cond s ((2 ^ w - m) % 2 ^ w) m
low_signed w true m small = low_is w (neg_ℤ (pos m)) 1 (2 ^ w - m) (omega (arith, ints))
low_signed w false m small = low_pos w m ∙ mod-eq_of_lt small

-- ---- quotients

quotient_signed : (s t : Bool) (m n : ℕ) → 0 < n → quotient (signed_of s m) (signed_of t n) ≡ signed_of (xor s t) (m / n)
unfolding quotient
quotient_signed s t m zero some = absurd (omega arith)
quotient_signed false false m (suc n) some = refl
quotient_signed false true m (suc n) some = refl
quotient_signed true false zero (suc n) some = ap pos (zero-div (suc n)) ∙ sym (ap (λ (k : ℕ). neg_ℤ (pos k)) (zero-div (suc n)))
quotient_signed true false (suc m) (suc n) some = refl
quotient_signed true true zero (suc n) some = ap (λ (k : ℕ). neg_ℤ (pos k)) (zero-div (suc n)) ∙ sym (ap pos (zero-div (suc n)))
quotient_signed true true (suc m) (suc n) some = refl

none_signed : (s : Bool) (k : ℕ) → k ≡ 0 → pos k ≡ signed_of s k
none_signed true k e = ap pos e ∙ sym (ap (λ (j : ℕ). neg_ℤ (pos j)) e)
none_signed false k e = refl

product_signed : (s t : Bool) (m n : ℕ) → signed_of s m *ℤ signed_of t n ≡ signed_of (xor s t) (m * n)
product_signed false false m n = pos-*ℤ-pos m n
product_signed false true m zero = pos-*ℤ-pos m zero ∙ none_signed true (m * 0) (mul-zero m)
product_signed false true m (suc n) = pos-*ℤ-negsuc m n
product_signed true false zero n = pos-*ℤ-pos zero n ∙ none_signed true (0 * n) (zero-mul n)
product_signed true false (suc m) n = negsuc-*ℤ-pos m n
product_signed true true zero zero = pos-*ℤ-pos zero zero
product_signed true true zero (suc n) = pos-*ℤ-negsuc zero n ∙ sym (none_signed true (0 * suc n) (zero-mul (suc n)))
product_signed true true (suc m) zero = negsuc-*ℤ-pos m zero ∙ sym (none_signed true (suc m * 0) (mul-zero (suc m)))
product_signed true true (suc m) (suc n) = negsuc-*ℤ-negsuc m n

difference_signed : (s : Bool) (m n r : ℕ) → n + r ≡ m → signed_of s m -ℤ signed_of s n ≡ signed_of s r
difference_signed true m n r e = omega (arith, ints)
difference_signed false m n r e = omega (arith, ints)

xor_back : (s t : Bool) → xor t (xor s t) ≡ s
xor_back true true = refl
xor_back true false = refl
xor_back false true = refl
xor_back false false = refl

remainder_signed : (s t : Bool) (m n q r : ℕ) → 0 < n → q ≡ m / n → n * q + r ≡ m → remainder (signed_of s m) (signed_of t n) ≡ signed_of s r
remainder_signed s t m n q r some is sum =
    ap (λ (z : ℤ). signed_of s m -ℤ (signed_of t n *ℤ z)) (quotient_signed s t m n some ∙ ap (signed_of (xor s t)) (sym is))
    ∙ ap (λ (z : ℤ). signed_of s m -ℤ z) (product_signed t (xor s t) n q)
    ∙ ap (λ (b : Bool). signed_of s m -ℤ signed_of b (n * q)) (xor_back s t)
    ∙ difference_signed s m (n * q) r sum

signed_zero : (t : Bool) → signed_of t 0 ≡ pos 0
signed_zero true = refl
signed_zero false = refl

some_test : (m : ℕ) → nat_lt 0 (suc m) ≡ true
some_test m = grind (arith, nat_tests)

-- what the circuit makes of a quotient by 0
by_zero_low : (w : ℕ) (s : Bool) (m q : ℕ) → q + 1 ≡ 2 ^ w → low_bits w (quotient_by_zero (signed_of s m)) ≡ cond s ((2 ^ w - cond (nat_lt 0 m) q 0) % 2 ^ w) (cond (nat_lt 0 m) q 0)
unfolding quotient_by_zero low_bits
by_zero_low w true zero q e = low_is w (pos 0) 1 (2 ^ w - 0) (omega (arith, ints))
by_zero_low w false zero q e = zero-mod (2 ^ w)
by_zero_low w true (suc m) q e = let one : 2 ^ w - q ≡ 1 = omega arith in ap (λ (k : ℕ). k % 2 ^ w) (sym one) ∙ ap (λ (b : Bool). (2 ^ w - cond b q 0) % 2 ^ w) (sym (some_test m))
by_zero_low w false (suc m) q e = let f : 2 ^ w - 1 - 0 % 2 ^ w ≡ q = omega (arith, zero-mod (2 ^ w)) in f ∙ ap (λ (b : Bool). cond b q 0) (sym (some_test m))

magnitude_below : (w n : ℕ) → n < 2 ^ w → magnitude w n < 2 ^ w
magnitude_below w n small = below (nat_lt n (2 ^ (w - 1))) (sym refl)
  where
    below : (t : Bool) → nat_lt n (2 ^ (w - 1)) ≡ t → cond t n (2 ^ w - n) < 2 ^ w
    below true e = small
    below false e = let far : 2 ^ (w - 1) ≤ n = grind (arith, nat_tests) in omega (arith, far, pow_pos (w - 1))

-- only 0 has the magnitude 0
magnitude_some : (w n : ℕ) → n < 2 ^ w → nat_lt 0 n ≡ nat_lt 0 (magnitude w n)
magnitude_some w n small = by (nat_lt n (2 ^ (w - 1))) refl
  where
    by : (t : Bool) → nat_lt n (2 ^ (w - 1)) ≡ t → nat_lt 0 n ≡ nat_lt 0 (cond t n (2 ^ w - n))
    by true e = refl
    by false e =
        let far : 2 ^ (w - 1) ≤ n = grind (arith, nat_tests) in
        let some : 0 < n = omega (arith, far, pow_pos (w - 1)) in
        let less : 0 < 2 ^ w - n = omega arith in
        let p : nat_lt 0 n ≡ true = grind (arith, nat_tests) in
        let q : nat_lt 0 (2 ^ w - n) ≡ true = grind (arith, nat_tests) in
        p ∙ sym q

divided_is : (a b p q r : ℕ) → IsDivided a b p q r → 0 < b → q ≡ a / b
divided_is a b p q r d some = sym (ap (λ (k : ℕ). k / b) (sym d.sum) ∙ div-mul-add q b r (d.below some))

-- 0 divided by anything is 0
none_divided : (t : Bool) (a b q : ℕ) → nat_lt 0 a ≡ t → q ≡ a / b → cond t q 0 ≡ q
none_divided true a b q e is = refl
none_divided false a b q e is = let none : a ≡ 0 = grind (arith, nat_tests) in sym (is ∙ ap (λ (k : ℕ). k / b) none ∙ zero-div b)

quotient_low : (w : ℕ) (s t : Bool) (a b q r : ℕ) → a < 2 ^ w → (b ≡ 0 → t ≡ false) → IsDivided a b (2 ^ w) q r → low_bits w (quotient (signed_of s a) (signed_of t b)) ≡ cond (xor s t) ((2 ^ w - cond (nat_lt 0 a) q 0) % 2 ^ w) (cond (nat_lt 0 a) q 0)
unfolding quotient
quotient_low w s t a zero q r small none d =
    let e = none refl in
    ap (λ (z : ℤ). low_bits w (quotient (signed_of s a) z)) (signed_zero t)
    ∙ by_zero_low w s a q (d.by_zero refl)
    ∙ ap (λ (u : Bool). cond u ((2 ^ w - cond (nat_lt 0 a) q 0) % 2 ^ w) (cond (nat_lt 0 a) q 0)) (sym (ap (λ (u : Bool). xor s u) e ∙ xor_false s))
  where
    xor_false : (s : Bool) → xor s false ≡ s
    xor_false true = refl
    xor_false false = refl
quotient_low w s t a (suc b) q r small none d =
    let some : 0 < suc b = omega arith in
    let is = divided_is a (suc b) (2 ^ w) q r d some in
    let whole = none_divided (nat_lt 0 a) a (suc b) q refl is in
    let below : q < 2 ^ w = omega (arith, is, div-le_self a (suc b)) in
    ap (low_bits w) (quotient_signed s t a (suc b) some ∙ ap (signed_of (xor s t)) (sym is))
    ∙ low_signed w (xor s t) q below
    ∙ ap (λ (k : ℕ). cond (xor s t) ((2 ^ w - k) % 2 ^ w) k) (sym whole)

-- 0 isn't negative
zero_sign : (w n : ℕ) → n < 2 ^ w → magnitude w n ≡ 0 → is_negative w n ≡ false
zero_sign w n small e = by (nat_lt n (2 ^ (w - 1))) e
  where
    by : (t : Bool) → cond t n (2 ^ w - n) ≡ 0 → not t ≡ false
    by true h = refl
    by false h = absurd (omega arith)

pub quotient_law : (w m n q r k : ℕ) → m < 2 ^ w → n < 2 ^ w → IsDivided (magnitude w m) (magnitude w n) (2 ^ w) q r → k ≡ cond (nat_lt 0 m) q 0 → from_bits w (cond (xor (is_negative w m) (is_negative w n)) ((2 ^ w - k) % 2 ^ w) k) ≡ wrap w (quotient (from_bits w m) (from_bits w n))
quotient_law w m n q r k small_m small_n d is =
    let a = magnitude w m in
    let kept : k ≡ cond (nat_lt 0 a) q 0 = is ∙ ap (λ (t : Bool). cond t q 0) (magnitude_some w m small_m) in
    ap (from_bits w) (
    ap (λ (j : ℕ). cond (xor (is_negative w m) (is_negative w n)) ((2 ^ w - j) % 2 ^ w) j) kept
    ∙ sym (quotient_low w (is_negative w m) (is_negative w n) a (magnitude w n) q r (magnitude_below w m small_m) (zero_sign w n small_n) d)
    ∙ ap (λ (z : ℤ). low_bits w (quotient z (signed_of (is_negative w n) (magnitude w n)))) (sym (from_signed w m small_m))
    ∙ ap (λ (z : ℤ). low_bits w (quotient (from_bits w m) z)) (sym (from_signed w n small_n)))

remainder_low : (w : ℕ) (s t : Bool) (a b q r : ℕ) → a < 2 ^ w → IsDivided a b (2 ^ w) q r → low_bits w (remainder (signed_of s a) (signed_of t b)) ≡ cond s ((2 ^ w - r) % 2 ^ w) r
remainder_low w s t a zero q r small d =
    let same : r ≡ a = omega (arith, d.sum, mul-zero q) in
    ap (λ (z : ℤ). low_bits w (signed_of s a -ℤ (z *ℤ quotient (signed_of s a) z))) (signed_zero t)
    ∙ ap (λ (z : ℤ). low_bits w (signed_of s a -ℤ z)) (zero-*ℤ (quotient (signed_of s a) (pos 0)))
    ∙ ap (low_bits w) (less_zero (signed_of s a))
    ∙ low_signed w s a small
    ∙ ap (λ (k : ℕ). cond s ((2 ^ w - k) % 2 ^ w) k) (sym same)
  where
    less_zero : (z : ℤ) → z -ℤ pos 0 ≡ z
    less_zero z = omega (arith, ints)
remainder_low w s t a (suc b) q r small d =
    let some : 0 < suc b = omega arith in
    let is = divided_is a (suc b) (2 ^ w) q r d some in
    let sum : suc b * q + r ≡ a = omega (arith, d.sum) in
    let below : r < 2 ^ w = omega (arith, d.sum) in
    ap (low_bits w) (remainder_signed s t a (suc b) q r some is sum) ∙ low_signed w s r below

pub remainder_law : (w m n q r : ℕ) → m < 2 ^ w → n < 2 ^ w → IsDivided (magnitude w m) (magnitude w n) (2 ^ w) q r → from_bits w (cond (is_negative w m) ((2 ^ w - r) % 2 ^ w) r) ≡ wrap w (remainder (from_bits w m) (from_bits w n))
remainder_law w m n q r small_m small_n d =
    ap (from_bits w) (
    sym (remainder_low w (is_negative w m) (is_negative w n) (magnitude w m) (magnitude w n) q r (magnitude_below w m small_m) d)
    ∙ ap (λ (z : ℤ). low_bits w (remainder z (signed_of (is_negative w n) (magnitude w n)))) (sym (from_signed w m small_m))
    ∙ ap (λ (z : ℤ). low_bits w (remainder (from_bits w m) z)) (sym (from_signed w n small_n)))
