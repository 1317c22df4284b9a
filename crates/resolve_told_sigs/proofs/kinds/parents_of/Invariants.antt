use Rattle.std.proofs.Common.{◌≡◌, take}
use Rattle.std.specs.List.{filter_map}
use Rattle.resolve_told_sigs.specs.Kinds.{parent_of}
use Rattle.resolve_told_sigs.proofs.kinds.parents_of.Given as goal

abbrev pub invariant-loop-decl : goal.invariant-loop-decl
invariant-loop-decl l = l.all ≡ filter_map (parent_of l.scopes) (take l.decl-index l.decls)
