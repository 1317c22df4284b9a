use Rattle.std.proofs.Common.{◌≡◌, ◌++◌, map, take}
use Rattle.bound_definitions.specs.Places.{each}
use Rattle.bound_definitions.specs.Trees.{counted_fact}
use Rattle.bound_scopes.specs.Roots.{counted_root}
use Rattle.bound_scopes.proofs.counted.add_facts.Given as goal

abbrev pub invariant-loop-fact : goal.invariant-loop-fact
invariant-loop-fact l = map counted_root l.all.items ≡ map counted_root l.initial.all.items ++ each counted_fact (take l.fact-index l.facts)
