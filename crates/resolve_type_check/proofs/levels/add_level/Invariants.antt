use Rattle.std.proofs.Common.{◌≡◌, ◌++◌, take, flat_map}
use Rattle.resolve_type_check.specs.Levels.{rows_here, sigs_above}
use Rattle.resolve_type_check.proofs.levels.add_level.Given as goal

abbrev pub invariant-loop-sig : goal.invariant-loop-sig
invariant-loop-sig l = record {
  rows : l.all ≡ l.initial.all ++ flat_map (rows_here l.sigs) (take l.sig-index l.waiting);
  next : l.next.items ≡ l.initial.next.items ++ flat_map (sigs_above l.sigs) (take l.sig-index l.waiting);
}
