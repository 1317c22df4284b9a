use Rattle.std.proofs.Common.{◌≡◌, take}
use Rattle.std.specs.Prelude.{filter_map}
use Rattle.resolve_hierarchy.specs.Rules.{member_of}
use Rattle.resolve_told.proofs.scopes.members_of.Given as goal

abbrev pub invariant-loop-place : goal.invariant-loop-place
invariant-loop-place l = l.all ≡ filter_map (member_of l.names.scopes) (take l.place l.decls)
