use Rattle.std.proofs.lemmas.List.Filters.{FiltersInPlace}
use Rattle.sat_lists.specs.Nodes.{stays}
use Rattle.sat_lists.proofs.rows.retain_in.Given as goal

abbrev pub invariant-loop-place : goal.invariant-loop-place
invariant-loop-place l = FiltersInPlace (stays l.marks) l.initial.row.items l.row.items l.kept l.place
