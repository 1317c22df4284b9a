use Rattle.std.proofs.Common.{◌≡◌, ◌++◌, take}
use Rattle.std.specs.List.{filter_map}
use Rattle.resolve_types.specs.Types.{row_of}
use Rattle.resolve_types.proofs.rows.add_pairs.Given as goal

abbrev pub invariant-loop-other : goal.invariant-loop-other
invariant-loop-other l = l.all ≡ l.initial.all ++ filter_map (row_of l.lines l.way l.row) (take l.other-index l.others)
