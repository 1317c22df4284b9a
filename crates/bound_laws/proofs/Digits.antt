-- Tests of 1, 2, .. up to a number, read as the digits of one number of which the first is the highest.
use Rattle.std.proofs.Common.{◌≡◌, inl, inr, ℕ, zero, suc, ◌+◌, ◌<◌, ◌≤◌, Bool, true, false, refl, sym, ap, ◌∙◌, arith}
use Rattle.std.proofs.lemmas.Bool.{cases_lt}

abbrev digit : Bool → ℕ
digit true = 1
digit false = 0

abbrev pub number : (ℕ → Bool) → ℕ → ℕ
number x zero = 0
number x (suc n) = number x n + number x n + digit (x (suc n))

-- how many numbers of so many digits there are
abbrev pub numbers : ℕ → ℕ
numbers zero = 1
numbers (suc n) = numbers n + numbers n

digit_low : (b : Bool) → digit b ≤ 1
digit_low true = omega arith
digit_low false = omega arith

digit_on : (b : Bool) → b ≡ true → digit b ≡ 1
digit_on b e = ap digit e

digit_off : (b : Bool) → b ≡ false → digit b ≡ 0
digit_off b e = ap digit e

pub number_low : (x : ℕ → Bool) (n : ℕ) → number x n < numbers n
number_low x zero = omega arith
number_low x (suc n) = let rest = number_low x n in let last = digit_low (x (suc n)) in omega (arith, rest, last)

number_same : (x y : ℕ → Bool) (n : ℕ) → ((u : ℕ) → u ≤ n → x u ≡ y u) → number x n ≡ number y n
number_same x y zero same = refl
number_same x y (suc n) same =
    let rest : number x n ≡ number y n = number_same x y n (λ u low. same u (omega (arith, low))) in
    let last : digit (x (suc n)) ≡ digit (y (suc n)) = ap digit (same (suc n) (omega arith)) in
    omega (arith, rest, last)

-- where two differ first, the one that is true there has the greater number
pub number_rises : (x y : ℕ → Bool) (n v : ℕ) → 1 ≤ v → v ≤ n → ((u : ℕ) → u < v → x u ≡ y u) → x v ≡ false → y v ≡ true → number x n < number y n
number_rises x y zero v low high same off on = absurd (omega (arith, low, high))
number_rises x y (suc n) v low high same off on = elim (cases_lt n v) [
  | inl last ↦
      let is : v ≡ suc n = omega (arith, last, high) in
      let rest : number x n ≡ number y n = number_same x y n (λ u small. same u (omega (arith, small, last))) in
      let zero_here : digit (x (suc n)) ≡ 0 = digit_off (x (suc n)) (ap x (sym is) ∙ off) in
      let one_there : digit (y (suc n)) ≡ 1 = digit_on (y (suc n)) (ap y (sym is) ∙ on) in
      omega (arith, rest, zero_here, one_there)
  | inr before ↦
      let rest : number x n < number y n = number_rises x y n v low before same off on in
      let most = digit_low (x (suc n)) in
      omega (arith, rest, most)
]
