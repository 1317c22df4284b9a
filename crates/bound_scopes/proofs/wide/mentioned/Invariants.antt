use Rattle.std.proofs.Common.{◌≡◌, [], ◌++◌, take}
use Rattle.bound_definitions.specs.Places.{each}
use Rattle.bound_scopes.proofs.Roots.{mentions_of_root}
use Rattle.bound_scopes.proofs.wide.mentioned.Given as goal

abbrev pub invariant-loop-place : goal.invariant-loop-place
invariant-loop-place l = l.all.items ≡ [] ++ each mentions_of_root (take l.place l.roots)
