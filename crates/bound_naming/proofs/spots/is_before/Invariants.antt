use Rattle.std.proofs.Common.{◌≡◌, false, take}
use Rattle.bound_naming.specs.Reckoned.{has_atom}
use Rattle.bound_naming.proofs.spots.is_before.Given as goal

abbrev pub invariant-loop-place : goal.invariant-loop-place
invariant-loop-place l = has_atom l.atom (take l.place l.numbers) ≡ false
