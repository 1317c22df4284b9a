use Rattle.std.proofs.Common.{◌≡◌, ◌%◌, ◌-◌, ◌<◌, ℕ, length}
use Rattle.bound_uppers.specs.Repeats.{Repeats}
use Rattle.bound_uppers.proofs.shortening.least_period.Given as goal

abbrev pub invariant-loop-period : goal.invariant-loop-period
invariant-loop-period l = (q : ℕ) → 0 < q → q < l.period → (length l.numbers - l.start) % q ≡ 0 → Repeats l.numbers l.start q → ⊥
