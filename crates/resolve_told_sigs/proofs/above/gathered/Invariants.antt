use Rattle.std.proofs.Common.{ℕ, Contains}
use Rattle.resolve_told_sigs.specs.Own.{IsAtOrAbove}
use Rattle.resolve_told_sigs.proofs.above.gathered.Given as goal

-- the sig is there, and each that is there is above it
abbrev pub invariant-loop-place : goal.invariant-loop-place
invariant-loop-place l = Contains l.list.items l.sig × ((t : ℕ) → Contains l.list.items t → IsAtOrAbove l.sigs l.sig t)
