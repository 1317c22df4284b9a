use Rattle.std.proofs.Common.{◌≡◌, false, take}
use Rattle.std.specs.List.{list_any}
use Rattle.resolve_hierarchy.specs.Overlap.{meets_one}
use Rattle.resolve_hierarchy.proofs.sigs.some_meet.Given as goal

abbrev pub invariant-loop-member : goal.invariant-loop-member
invariant-loop-member l = list_any (λ m. list_any (meets_one l.lines m) l.b) (take l.member-index l.a) ≡ false
