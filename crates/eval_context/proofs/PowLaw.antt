-- How many integers a small bitwidth gives.
use Rattle.std.proofs.Common.{ℕ, ◌+◌, ◌^◌, ◌<◌, ◌≤◌, lit<, arith, inl, inr}
use Rattle.std.proofs.lemmas.Bool.{cases_lt}
use Rattle.std.proofs.Math.Nat.{pow-le-pow_right}
use lib.Pow.{pow_pos}

pub pow_few : (n : ℕ) → n ≤ 14 → 2 ^ n ≤ 16384
pow_few n h = let le : 2 ^ n ≤ 2 ^ 14 = pow-le-pow_right (lit< tt) h in omega arith

pub pow_some : (n : ℕ) → 1 ≤ 2 ^ n
pow_some n = let some : 0 < 2 ^ n = pow_pos n in omega arith

pub pow_bound : (a n : ℕ) → a + 2 ^ n ≤ 16384 → n ≤ 14
pow_bound a n h = elim (cases_lt 14 n) [
  | inl more ↦ let far : 15 ≤ n = omega arith in let le : 2 ^ 15 ≤ 2 ^ n = pow-le-pow_right (lit< tt) far in absurd (omega arith)
  | inr le ↦ le
]
