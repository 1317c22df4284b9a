-- The arithmetic of circuits is that of the language.
use Rattle.std.proofs.Common.{◌≡◌, ℕ, zero, suc, ◌+◌, ◌/◌, refl, ap, ◌∙◌, arith, ℤ, pos, negsuc, neg_ℤ, ◌-ℤ◌, ◌*ℤ◌}
use Rattle.std.proofs.lemmas.Int.{ints}
use Rattle.gate_integers.specs.Numbers.{from_bits, low_bits, wrap}
use Rattle.gate_integers.specs.Quotients.{quotient, quotient_by_zero, remainder}
use Rattle.core_meaning.specs.Integers.{from_bits as read_bits, low_bits as cut_bits, wrap as wrap_to, quotient as quotient_of, remainder as remainder_of}

pub low_same : (w : ℕ) (z : ℤ) → low_bits w z ≡ cut_bits w z
unfolding low_bits
low_same w (pos n) = refl
low_same w (negsuc n) = refl

read_same : (w n : ℕ) → from_bits w n ≡ read_bits w n
unfolding from_bits
read_same w n = refl

pub wrap_same : (w : ℕ) (z : ℤ) → wrap w z ≡ wrap_to w z
wrap_same w z = read_same w (low_bits w z) ∙ ap (read_bits w) (low_same w z)

negative : (n : ℕ) → neg_ℤ (pos n) ≡ pos 0 -ℤ pos n
negative n = omega (arith, ints)

quotients : (a b : ℤ) → quotient a b ≡ quotient_of a b
unfolding quotient quotient_by_zero
quotients (pos zero) (pos zero) = refl
quotients (pos (suc m)) (pos zero) = refl
quotients (negsuc m) (pos zero) = refl
quotients (pos zero) (pos (suc n)) = ap (λ (k : ℕ). pos (zero / k)) (let e : suc n ≡ n + 1 = omega arith in e)
quotients (pos (suc m)) (pos (suc n)) = ap (λ (k : ℕ). pos (suc m / k)) (let e : suc n ≡ n + 1 = omega arith in e)
quotients (pos zero) (negsuc n) = ap (λ (k : ℕ). neg_ℤ (pos (zero / k))) (let e : suc n ≡ n + 1 = omega arith in e) ∙ negative (zero / (n + 1))
quotients (pos (suc m)) (negsuc n) = ap (λ (k : ℕ). neg_ℤ (pos (suc m / k))) (let e : suc n ≡ n + 1 = omega arith in e) ∙ negative (suc m / (n + 1))
quotients (negsuc m) (pos (suc n)) = ap (λ (k : ℕ). neg_ℤ (pos (suc m / k))) (let e : suc n ≡ n + 1 = omega arith in e) ∙ ap (λ (k : ℕ). neg_ℤ (pos (k / (n + 1)))) (let e : suc m ≡ m + 1 = omega arith in e) ∙ negative ((m + 1) / (n + 1))
quotients (negsuc m) (negsuc n) = ap (λ (k : ℕ). pos (suc m / k)) (let e : suc n ≡ n + 1 = omega arith in e) ∙ ap (λ (k : ℕ). pos (k / (n + 1))) (let e : suc m ≡ m + 1 = omega arith in e)

pub quotient_same : (w : ℕ) (a b : ℤ) → wrap w (quotient a b) ≡ wrap_to w (quotient_of a b)
quotient_same w a b = wrap_same w (quotient a b) ∙ ap (wrap_to w) (quotients a b)

pub remainder_same : (w : ℕ) (a b : ℤ) → wrap w (remainder a b) ≡ wrap_to w (remainder_of a b)
remainder_same w a b = wrap_same w (remainder a b) ∙ ap (λ (q : ℤ). wrap_to w (a -ℤ (b *ℤ q))) (quotients a b)
