use Rattle.std.proofs.Common.{◌≡◌, drop}
use Rattle.sat_lrat.specs.Step.{are_distinct}
use Rattle.sat_checker.proofs.store.are_distinct_by_pairs.Given as goal

abbrev pub invariant-loop-place : goal.invariant-loop-place
invariant-loop-place l = are_distinct (drop l.place l.ids) ≡ are_distinct l.ids
