use Rattle.std.proofs.Common.{◌≡◌, take}
use Rattle.bound_naming.specs.Reckoned.{moving}
use Rattle.bound_naming.proofs.partners.moving.Given as goal

abbrev pub invariant-loop-place : goal.invariant-loop-place
invariant-loop-place l = l.all ≡ moving (take l.place l.matches)
