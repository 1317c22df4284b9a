use Rattle.std.proofs.Common.{◌≡◌, take, None}
use Rattle.bound_definitions.specs.Places.{first_from, each}
use Rattle.bound_definitions.specs.Rules.{exact_var_entry}
use Rattle.bound_scopes.proofs.entries.exact_var_entries.Given as goal

abbrev pub invariant-loop-place : goal.invariant-loop-place
invariant-loop-place l = l.first ≡ first_from None (each (exact_var_entry l.sigs) (take l.place l.entries))
