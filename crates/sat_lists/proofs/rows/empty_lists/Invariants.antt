use Rattle.std.proofs.Common.{◌≡◌, [], replicate}
use Rattle.sat_lists.specs.Nodes.{rows}
use Rattle.sat_lists.proofs.rows.empty_lists.Given as goal

abbrev pub invariant-loop-place : goal.invariant-loop-place
invariant-loop-place l = rows l.lists.items ≡ replicate l._place []
