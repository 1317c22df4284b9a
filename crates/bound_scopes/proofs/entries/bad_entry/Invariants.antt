use Rattle.std.proofs.Common.{◌≡◌, [], take, length, None}
use Rattle.bound_definitions.specs.Places.{first_from, each_behind}
use Rattle.bound_definitions.specs.Rules.{bad_entry}
use Rattle.bound_scopes.specs.Listed.{AreMarked}
use Rattle.bound_scopes.proofs.entries.bad_entry.Given as goal

abbrev pub invariant-loop-place : goal.invariant-loop-place
invariant-loop-place l = record {
  bad : l.bad ≡ first_from None (each_behind (bad_entry l.sigs) [] (take l.place l.entries));
  marks : AreMarked (length l.sigs) (take l.place l.entries) l.marks.items l.single;
}
