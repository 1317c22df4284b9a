use Rattle.std.proofs.Common.{◌≡◌, ◌++◌, map, take}
use Rattle.bound_definitions.specs.Places.{each}
use Rattle.bound_definitions.specs.Trees.{counted_sig}
use Rattle.bound_scopes.specs.Roots.{counted_root}
use Rattle.bound_scopes.proofs.counted.add_sigs.Given as goal

abbrev pub invariant-loop-sig : goal.invariant-loop-sig
invariant-loop-sig l = map counted_root l.all.items ≡ map counted_root l.initial.all.items ++ each counted_sig (take l.sig-index l.sigs)
