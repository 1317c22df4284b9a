use Rattle.std.proofs.Common.{◌≡◌, ◌++◌, drop}
use Rattle.core_tree.specs.Types.{top_rows}
use Rattle.resolve_type_check.proofs.sigs.rows_of_tops.Given as goal

abbrev pub invariant-loop-place : goal.invariant-loop-place
invariant-loop-place l = l.all ++ top_rows (drop l.place l.sigs) l.place ≡ top_rows l.sigs 0
