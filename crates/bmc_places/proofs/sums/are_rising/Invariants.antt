use Rattle.std.proofs.Common.{◌-◌, length, map, drop}
use Rattle.std.specs.List.Sorted.{IsStrictlySortedBy}
use Rattle.core_tuples.specs.Sets.{tuple_cmp}
use Rattle.bmc_places.specs.declared.gathering.Choice.{Choice}
use Rattle.bmc_places.proofs.sums.are_rising.Given as goal

abbrev pub invariant-loop-turn : goal.invariant-loop-turn
invariant-loop-turn l = IsStrictlySortedBy tuple_cmp (map (λ (c : Choice). c.tuple) (drop (length l.choices - l.turn) l.choices))
