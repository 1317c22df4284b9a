use Rattle.std.proofs.Common.{◌≡◌, ◌++◌, take}
use Rattle.std.specs.List.{flat_map}
use Rattle.resolve_told_types.specs.Steps.{pairs_with}
use Rattle.resolve_told_types.proofs.outermost.are_pairs.Given as goal

abbrev pub invariant-loop-other : goal.invariant-loop-other
invariant-loop-other l = l.rows ≡ flat_map (pairs_with l.others) (take l.other-index l.others) ++ l.rest
