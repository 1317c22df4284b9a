use Rattle.std.proofs.Common.{ℕ, ◌≤◌, ◌<◌, ◌*◌, ◌^◌, ◌%◌, ◌≡◌, arith}
use Rattle.std.proofs.Math.Pow.{pow_mono}
use Rattle.std.proofs.Math.Nat.{mod-eq_of_lt}
use Rattle.bound_scopes.proofs.limits.integers_of.Goals as goal

at_most : (n : ℕ) → n ≤ 4096 → 1 * n % 18446744073709551616 ≤ 4096
at_most n h =
    let small : 1 * n < 18446744073709551616 = omega arith in
    let e : 1 * n % 18446744073709551616 ≡ 1 * n = mod-eq_of_lt small in
    omega arith

pub returns-clause-few : goal.returns-clause-few
returns-clause-few c = let h : 2 ^ c.args.bits ≤ 4096 = pow_mono c.requires.1 in at_most (2 ^ c.args.bits) h
