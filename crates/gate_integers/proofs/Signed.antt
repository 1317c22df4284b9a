-- How integers are compared by their bits.
use Rattle.std.proofs.Common.{◌≡◌, ◌↔◌, ℕ, ◌+◌, ◌-◌, ◌*◌, ◌^◌, ◌<◌, nat_lt, Bool, true, false, cond, sym, ap, ◌∙◌, subst, arith, ℤ, pos, ◌+ℤ◌, ◌-ℤ◌, ◌<ℤ◌}
use Rattle.std.proofs.lemmas.Int.{ints}
use Rattle.std.proofs.lemmas.Bool.{false≢true}
use Rattle.std.proofs.lemmas.Bool.Decides.{nat_tests}
use Rattle.std.proofs.Math.Nat.{mod-eq_of_lt}
use Rattle.gate_trait.specs.Built.{xor}
use Rattle.gate_integers.specs.Numbers.{bit, from_bits, low_bits}
use Rattle.gate_integers.proofs.BinaryLemmas.{pow_next}
use Rattle.gate_integers.proofs.WrappedLemmas.{low_is}

-- the integer of the low bits and the sign bit
sign_case : (A : Bool) (n p : ℕ) → n < p → cond (nat_lt (n + p * bit A) p) (pos (n + p * bit A)) (pos (n + p * bit A) -ℤ pos (2 * p)) ≡ cond A (pos n -ℤ pos p) (pos n)
sign_case true n p small =
    let t : nat_lt (n + p * 1) p ≡ false = grind (arith, nat_tests) in
    ap (λ (b : Bool). cond b (pos (n + p * 1)) (pos (n + p * 1) -ℤ pos (2 * p))) t ∙ omega (arith, ints)
sign_case false n p small =
    let t : nat_lt (n + p * 0) p ≡ true = grind (arith, nat_tests) in
    ap (λ (b : Bool). cond b (pos (n + p * 0)) (pos (n + p * 0) -ℤ pos (2 * p))) t ∙ omega (arith, ints)

pub from_sign : (j n : ℕ) (A : Bool) → n < 2 ^ j → from_bits (j + 1) (n + 2 ^ j * bit A) ≡ cond A (pos n -ℤ pos (2 ^ j)) (pos n)
unfolding from_bits
from_sign j n A small =
    let back : j + 1 - 1 ≡ j = omega arith in
    let m = n + 2 ^ j * bit A in
    ap (λ (k : ℕ). cond (nat_lt m (2 ^ k)) (pos m) (pos m -ℤ pos (2 ^ (j + 1)))) back
    ∙ ap (λ (k : ℕ). cond (nat_lt m (2 ^ j)) (pos m) (pos m -ℤ pos k)) (pow_next j)
    ∙ sign_case A n (2 ^ j) small

less_cases : (A B r : Bool) (m n p : ℕ) → m < p → n < p → r ≡ cond (xor A B) A (nat_lt m n) → (r ≡ true) ↔ (cond A (pos m -ℤ pos p) (pos m) <ℤ cond B (pos n -ℤ pos p) (pos n))
less_cases true true r m n p sm sn e = (
  (λ h. let l : m < n = (let t : nat_lt m n ≡ true = sym e ∙ h in grind (arith, nat_tests)) in omega (arith, ints, l)),
  (λ h. let l : m < n = omega (arith, ints, h) in e ∙ grind (arith, nat_tests)),
)
less_cases true false r m n p sm sn e = ((λ h. omega (arith, ints)), (λ h. e))
less_cases false true r m n p sm sn e = ((λ h. absurd (false≢true (sym e ∙ h))), (λ h. absurd (omega (arith, ints, h))))
less_cases false false r m n p sm sn e = (
  (λ h. let l : m < n = (let t : nat_lt m n ≡ true = sym e ∙ h in grind (arith, nat_tests)) in omega (arith, ints, l)),
  (λ h. let l : m < n = omega (arith, ints, h) in e ∙ grind (arith, nat_tests)),
)

pub less_law : (j m n : ℕ) (A B r : Bool) → m < 2 ^ j → n < 2 ^ j → r ≡ cond (xor A B) A (nat_lt m n) → (r ≡ true) ↔ (from_bits (j + 1) (m + 2 ^ j * bit A) <ℤ from_bits (j + 1) (n + 2 ^ j * bit B))
less_law j m n A B r sm sn e =
    let c = less_cases A B r m n (2 ^ j) sm sn e in
    let fa = from_sign j m A sm in
    let fb = from_sign j n B sn in (
      (λ h. subst (λ (z : ℤ). z <ℤ from_bits (j + 1) (n + 2 ^ j * bit B)) (sym fa) (subst (λ (z : ℤ). cond A (pos m -ℤ pos (2 ^ j)) (pos m) <ℤ z) (sym fb) (c.0 h))),
      (λ h. c.1 (subst (λ (z : ℤ). cond A (pos m -ℤ pos (2 ^ j)) (pos m) <ℤ z) fb (subst (λ (z : ℤ). z <ℤ from_bits (j + 1) (n + 2 ^ j * bit B)) fa h))),
    )

-- the bits of an integer give its number back
pub number_back : (w m n : ℕ) → m < 2 ^ w → n < 2 ^ w → from_bits w m ≡ from_bits w n → m ≡ n
unfolding from_bits
number_back w m n sm sn e = sym (low_back w m sm) ∙ ap (low_bits w) e ∙ low_back w n sn
  where
    low_case : (t : Bool) (m p : ℕ) → (j : ℕ) × (cond t (pos m) (pos m -ℤ pos p) +ℤ pos (j * p) ≡ pos m)
    low_case true m p = (0, omega (arith, ints))
    low_case false m p = (1, omega (arith, ints))

    low_back : (w m : ℕ) → m < 2 ^ w → low_bits w (from_bits w m) ≡ m
    low_back w m small = let c = low_case (nat_lt m (2 ^ (w - 1))) m (2 ^ w) in low_is w (from_bits w m) c.0 m c.1 ∙ mod-eq_of_lt small
