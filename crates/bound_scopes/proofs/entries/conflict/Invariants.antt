use Rattle.std.proofs.Common.{◌≡◌, take, None}
use Rattle.bound_definitions.specs.Places.{first_from, each}
use Rattle.bound_definitions.specs.Rules.{conflicting_entry}
use Rattle.bound_scopes.proofs.entries.conflict.Given as goal

abbrev pub invariant-loop-place : goal.invariant-loop-place
invariant-loop-place l = l.first ≡ first_from None (each (conflicting_entry l.sigs) (take l.place l.entries))
