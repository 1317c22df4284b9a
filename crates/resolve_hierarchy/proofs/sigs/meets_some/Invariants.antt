use Rattle.std.proofs.Common.{◌≡◌, false, take}
use Rattle.std.specs.List.{list_any}
use Rattle.resolve_hierarchy.specs.Overlap.{meets_one}
use Rattle.resolve_hierarchy.proofs.sigs.meets_some.Given as goal

abbrev pub invariant-loop-other : goal.invariant-loop-other
invariant-loop-other l = list_any (meets_one l.lines l.member) (take l.other-index l.others) ≡ false
