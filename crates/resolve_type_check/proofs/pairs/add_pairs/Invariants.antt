use Rattle.std.proofs.Common.{◌≡◌, ◌++◌, take}
use Rattle.std.specs.List.{flat_map}
use Rattle.resolve_type_check.specs.Steps.{rows_by}
use Rattle.resolve_type_check.proofs.pairs.add_pairs.Given as goal

abbrev pub invariant-loop-other : goal.invariant-loop-other
invariant-loop-other l = l.all ≡ l.initial.all ++ flat_map (rows_by l.sigs l.way l.row) (take l.other-index l.others)
