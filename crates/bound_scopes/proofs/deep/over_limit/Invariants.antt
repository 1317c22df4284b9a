use Rattle.std.proofs.Common.{◌≡◌, take, None}
use Rattle.bound_definitions.specs.Places.{first_from, each}
use Rattle.bound_scopes.proofs.Roots.{deep_root}
use Rattle.bound_scopes.proofs.deep.over_limit.Given as goal

abbrev pub invariant-loop-place : goal.invariant-loop-place
invariant-loop-place l = l.first ≡ first_from None (each (deep_root l.measure l.bodies) (take l.place l.roots))
