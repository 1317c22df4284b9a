use Rattle.std.proofs.Common.{◌≡◌, ◌++◌, take, flat_map}
use Rattle.resolve_type_check.specs.Levels.{int_row, sig_of}
use Rattle.resolve_type_check.proofs.levels.add_parents.Given as goal

abbrev pub invariant-loop-parent : goal.invariant-loop-parent
invariant-loop-parent l = record {
  rows : l.all ≡ l.initial.all ++ flat_map int_row (take l.parent-index l.parents);
  next : l.next.items ≡ l.initial.next.items ++ flat_map sig_of (take l.parent-index l.parents);
}
