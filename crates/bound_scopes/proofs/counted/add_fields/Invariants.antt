use Rattle.std.proofs.Common.{◌≡◌, ◌++◌, map, take}
use Rattle.bound_definitions.specs.Places.{each}
use Rattle.bound_definitions.specs.Trees.{counted_field}
use Rattle.bound_scopes.specs.Roots.{counted_root}
use Rattle.bound_scopes.proofs.counted.add_fields.Given as goal

abbrev pub invariant-loop-field : goal.invariant-loop-field
invariant-loop-field l = map counted_root l.all.items ≡ map counted_root l.initial.all.items ++ each (counted_field l.sigs) (take l.field-index l.fields)
