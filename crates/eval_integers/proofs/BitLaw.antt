-- The bits of integers, and quotients.
use Rattle.std.proofs.Common.{◌≡◌, ◌≢◌, ℕ, zero, suc, ◌+◌, ◌-◌, ◌/◌, ◌%◌, ◌^◌, ◌<◌, ◌≤◌, nat_lt, Bool, true, false, cond, refl, sym, ap, ◌∙◌, arith, ℤ, pos, negsuc, ◌+ℤ◌, ◌-ℤ◌, ◌<ℤ◌, ◌≤ℤ◌, ◌*ℤ◌, neg_ℤ}
use Rattle.std.specs.Int.RustNames.{unsigned_abs, int_div, int_rem}
use Rattle.std.proofs.lemmas.Bool.{false≢true}
use Rattle.std.proofs.lemmas.Bool.Decides.{nat_tests}
use Rattle.std.proofs.lemmas.Int.{ints, quot-rem}
use Rattle.std.proofs.Math.IntN.{*ℤ_comm, zero-*ℤ}
use Rattle.core_meaning.specs.Integers.{low_bits, from_bits, wrap, quotient, remainder}
use Rattle.eval_integers.proofs.SumLemmas.{wrap_both}

pub low_nonneg : (w : ℕ) (z : ℤ) (m : ℕ) → pos 0 ≤ℤ z → m ≡ unsigned_abs z → m % 2 ^ w ≡ low_bits w z
low_nonneg w (pos n) m le e = ap (λ (k : ℕ). k % 2 ^ w) e
low_nonneg w (negsuc n) m le e = absurd (omega (arith, ints))

pub low_negative : (w : ℕ) (z : ℤ) (m : ℕ) → z <ℤ pos 0 → m ≡ unsigned_abs z → 2 ^ w - 1 - (m - 1) % 2 ^ w ≡ low_bits w z
low_negative w (pos n) m lt e = absurd (omega (arith, ints))
low_negative w (negsuc n) m lt e = let back : m - 1 ≡ n = omega arith in ap (λ (k : ℕ). 2 ^ w - 1 - k % 2 ^ w) back

case_true : (b : Bool) (x y : ℤ) → b ≡ true → x ≡ cond b x y
case_true true x y e = refl
case_true false x y e = absurd (false≢true e)

case_false : (b : Bool) (x y : ℤ) → b ≡ false → y ≡ cond b x y
case_false true x y e = absurd (false≢true (sym e))
case_false false x y e = refl

pub from_low : (w k : ℕ) → k < 2 ^ (w - 1) → pos k ≡ from_bits w k
from_low w k lt = case_true (nat_lt k (2 ^ (w - 1))) (pos k) (pos k -ℤ pos (2 ^ w)) (grind (arith, nat_tests))

pub from_high : (w k : ℕ) → 2 ^ (w - 1) ≤ k → pos k -ℤ pos (2 ^ w) ≡ from_bits w k
from_high w k le = case_false (nat_lt k (2 ^ (w - 1))) (pos k) (pos k -ℤ pos (2 ^ w)) (grind (arith, nat_tests))

less_of : (k : ℕ) → neg_ℤ (pos k) ≡ pos 0 -ℤ pos k
less_of k = omega (arith, ints)

pub quotient_div : (x y : ℤ) → y ≢ pos 0 → int_div x y ≡ quotient x y
quotient_div (pos m) (pos zero) some = absurd (some refl)
quotient_div (negsuc m) (pos zero) some = absurd (some refl)
quotient_div (pos m) (pos (suc n)) some = let e : suc n ≡ n + 1 = omega arith in ap (λ (k : ℕ). pos (m / k)) e
quotient_div (pos m) (negsuc n) some = let e : suc n ≡ n + 1 = omega arith in ap (λ (k : ℕ). neg_ℤ (pos (m / k))) e ∙ less_of (m / (n + 1))
quotient_div (negsuc m) (pos (suc n)) some =
    let e : suc n ≡ n + 1 = omega arith in
    let f : suc m ≡ m + 1 = omega arith in
    ap (λ (k : ℕ). neg_ℤ (pos (suc m / k))) e ∙ ap (λ (k : ℕ). neg_ℤ (pos (k / (n + 1)))) f ∙ less_of ((m + 1) / (n + 1))
quotient_div (negsuc m) (negsuc n) some =
    let e : suc n ≡ n + 1 = omega arith in
    let f : suc m ≡ m + 1 = omega arith in
    ap (λ (k : ℕ). pos (suc m / k)) e ∙ ap (λ (k : ℕ). pos (k / (n + 1))) f

pub quotient_none : (x y : ℤ) → x ≡ pos 0 → y ≡ pos 0 → pos 0 ≡ quotient x y
quotient_none x y e f = sym (ap (λ (z : ℤ). quotient z y) e ∙ ap (quotient (pos 0)) f)

pub quotient_low : (x y : ℤ) → x <ℤ pos 0 → y ≡ pos 0 → pos 1 ≡ quotient x y
quotient_low (pos m) y lt f = absurd (omega (arith, ints))
quotient_low (negsuc m) y lt f = sym (ap (quotient (negsuc m)) f)

pub quotient_high : (x y : ℤ) → x ≢ pos 0 → pos 0 ≤ℤ x → y ≡ pos 0 → negsuc 0 ≡ quotient x y
quotient_high (pos zero) y some le f = absurd (some refl)
quotient_high (pos (suc m)) y some le f = sym (ap (quotient (pos (suc m))) f)
quotient_high (negsuc m) y some le f = absurd (omega (arith, ints))

rest_step : (p q r x : ℤ) → p +ℤ r ≡ x → q ≡ p → r ≡ x -ℤ q
rest_step p q r x whole same = omega (arith, ints)

pub remainder_rest : (x y : ℤ) → y ≢ pos 0 → int_rem x y ≡ remainder x y
remainder_rest x y some =
    rest_step (int_div x y *ℤ y) (y *ℤ int_div x y) (int_rem x y) x (quot-rem x y) (*ℤ_comm y (int_div x y))
    ∙ ap (λ (z : ℤ). x -ℤ (y *ℤ z)) (quotient_div x y some)

none_left : (x q : ℤ) → x ≡ x -ℤ (pos 0 *ℤ q)
none_left x q = rest_step (pos 0) (pos 0 *ℤ q) x x (omega (arith, ints)) (zero-*ℤ q)

pub remainder_none : (x y : ℤ) → y ≡ pos 0 → x ≡ remainder x y
remainder_none x y none = none_left x (quotient x y) ∙ ap (λ (z : ℤ). x -ℤ (z *ℤ quotient x y)) (sym none)

pub sums_wrap : (w : ℕ) (x y a b t r : ℤ) → a ≡ wrap w x → b ≡ wrap w y → t ≡ a +ℤ b → r ≡ wrap w t → r ≡ wrap w (x +ℤ y)
sums_wrap w x y a b t r ea eb et er = er ∙ ap (wrap w) (et ∙ ap (λ (z : ℤ). z +ℤ b) ea ∙ ap (λ (z : ℤ). wrap w x +ℤ z) eb) ∙ wrap_both w x y
