use Rattle.std.proofs.Common.{◌≡◌, take}
use Rattle.core_tree.specs.Types.{each_pair}
use Rattle.resolve_type_check.specs.Steps.{rows_by}
use Rattle.resolve_type_check.proofs.pairs.pairs_of.Given as goal

abbrev pub invariant-loop-row : goal.invariant-loop-row
invariant-loop-row l = l.all ≡ each_pair (rows_by l.sigs l.way) (take l.row-index l.rows) l.others
