-- How many integers a small bitwidth gives.
use Rattle.std.proofs.Common.{ℕ, ◌-◌, ◌^◌, ◌<◌, ◌≤◌, lit<, arith}
use Rattle.std.proofs.Math.Nat.{pow-le-pow_right}
use lib.Pow.{pow_pos}

pub pow_few : (n : ℕ) → n ≤ 14 → 2 ^ n ≤ 16384
pow_few n h = let le : 2 ^ n ≤ 2 ^ 14 = pow-le-pow_right (lit< tt) h in omega arith

pub pow_some : (n : ℕ) → 1 ≤ 2 ^ n
pow_some n = let some : 0 < 2 ^ n = pow_pos n in omega arith

pub pow_half : (n : ℕ) → n ≤ 14 → 1 ≤ n → 2 ^ (n - 1) ≤ 8192
pow_half n h some = let below : n - 1 ≤ 13 = omega arith in let le : 2 ^ (n - 1) ≤ 2 ^ 13 = pow-le-pow_right (lit< tt) below in omega arith
