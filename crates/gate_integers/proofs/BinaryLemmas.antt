-- Lemmas on the numbers that truth values mean.
use Rattle.std.proofs.Common.{◌≡◌, ℕ, zero, suc, ◌+◌, ◌-◌, ◌*◌, ◌%◌, ◌^◌, ◌<◌, nat_lt, Bool, true, false, not, cond, inl, inr, List, [], ◌∷◌, ◌++◌, length, map, replicate, refl, sym, ◌∙◌, ap, arith}
use Rattle.std.proofs.Math.Nat.{pow-succ'}
use Rattle.std.proofs.lemmas.Nat.{mod-mul-add}
use Rattle.std.proofs.lemmas.Bool.{cases_lt}
use Rattle.std.proofs.lemmas.Bool.Decides.{nat_tests}
use Rattle.gate_trait.specs.Built.{xor}
use Rattle.gate_integers.specs.Numbers.{bit, binary}

pub pow_more : (n : ℕ) → 2 ^ suc n ≡ 2 * 2 ^ n
pow_more n = pow-succ' 2 n

pub pow_next : (n : ℕ) → 2 ^ (n + 1) ≡ 2 * 2 ^ n
pow_next n = let e : n + 1 ≡ suc n = omega arith in ap (λ (k : ℕ). 2 ^ k) e ∙ pow_more n

pub bit_below : (b : Bool) → bit b < 2
bit_below true = omega arith
bit_below false = omega arith

-- one more bit above the others
pub binary_push : (bs : List Bool) (b : Bool) → binary (bs ++ b ∷ []) ≡ binary bs + 2 ^ length bs * bit b
binary_push [] b = omega arith
binary_push (c ∷ bs) b =
    let h = binary_push bs b in
    let p = ap (λ (k : ℕ). k * bit b) (pow_more (length bs)) in
    omega (arith, h, p)

pub binary_below : (bs : List Bool) → binary bs < 2 ^ length bs
binary_below [] = omega arith
binary_below (b ∷ bs) =
    let small = bit_below b in
    omega (arith, binary_below bs, pow_more (length bs), small)

-- bits and their negations are together the greatest number
pub binary_not : (bs : List Bool) → binary (map not bs) + binary bs + 1 ≡ 2 ^ length bs
binary_not [] = refl
binary_not (true ∷ bs) = omega (arith, binary_not bs, pow_more (length bs))
binary_not (false ∷ bs) = omega (arith, binary_not bs, pow_more (length bs))

pub binary_zeros : (n : ℕ) → binary (replicate n false) ≡ 0
binary_zeros zero = refl
binary_zeros (suc n) = omega (arith, binary_zeros n)

-- a carry that is lost
pub wraps : (n p c m : ℕ) → n < p → n + p * c ≡ m → n ≡ m % p
wraps n p c m small e =
    let f : c * p + n ≡ m = omega (arith, e) in
    sym (mod-mul-add c p n small) ∙ ap (λ (k : ℕ). k % p) f

-- three bits make a digit and a carry
pub digit_law : (a b c half sum carry : Bool) → half ≡ xor a b → sum ≡ xor half c → carry ≡ cond half c a → bit sum + 2 * bit carry ≡ bit a + bit b + bit c
digit_law a b c half sum carry eh es ec =
    ap (λ (s : Bool). bit s + 2 * bit carry) es
    ∙ ap (λ (k : Bool). bit (xor half c) + 2 * bit k) ec
    ∙ ap (λ (h : Bool). bit (xor h c) + 2 * bit (cond h c a)) eh
    ∙ by_cases a b c
  where
    by_cases : (a b c : Bool) → bit (xor (xor a b) c) + 2 * bit (cond (xor a b) c a) ≡ bit a + bit b + bit c
    by_cases true true true = refl
    by_cases true true false = refl
    by_cases true false true = refl
    by_cases true false false = refl
    by_cases false true true = refl
    by_cases false true false = refl
    by_cases false false true = refl
    by_cases false false false = refl

-- one more digit of a sum
pub sum_step : (n p s d a b c na nb k : ℕ) → n + p * c ≡ na + nb + k → s + 2 * d ≡ a + b + c → (n + p * s) + (2 * p) * d ≡ (na + p * a) + (nb + p * b) + k
sum_step n p s d a b c na nb k h e = omega (arith, h, ap (λ (j : ℕ). p * j) e)

-- one more bit decides a comparison
pub less_step : (p m n : ℕ) (A B : Bool) → m < p → n < p → cond (xor A B) B (nat_lt m n) ≡ nat_lt (m + p * bit A) (n + p * bit B)
less_step p m n true true sm sn = same_test m n (m + p * 1) (n + p * 1) (omega arith) (omega arith)
  where
    same_test : (a b c d : ℕ) → c + b ≡ d + a → a + d ≡ c + b → nat_lt a b ≡ nat_lt c d
    same_test a b c d e f = elim (cases_lt a b) [
      | inl l ↦ (let s : nat_lt a b ≡ true = grind (arith, nat_tests) in let t : nat_lt c d ≡ true = grind (arith, nat_tests) in s ∙ sym t)
      | inr l ↦ (let s : nat_lt a b ≡ false = grind (arith, nat_tests) in let t : nat_lt c d ≡ false = grind (arith, nat_tests) in s ∙ sym t)
    ]
less_step p m n true false sm sn = let t : nat_lt (m + p * 1) (n + p * 0) ≡ false = grind (arith, nat_tests) in sym t
less_step p m n false true sm sn = let t : nat_lt (m + p * 0) (n + p * 1) ≡ true = grind (arith, nat_tests) in sym t
less_step p m n false false sm sn =
    let e : m + p * 0 ≡ m = omega arith in
    let f : n + p * 0 ≡ n = omega arith in
    ap (λ (k : ℕ). nat_lt k n) (sym e) ∙ ap (λ (k : ℕ). nat_lt (m + p * 0) k) (sym f)
